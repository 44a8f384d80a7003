use Rattle.ljpeg_huffman.proofs.SpellLemmas.{one_list}
use Rattle.ljpeg_huffman.proofs.bits.one_spelling.Goals as goal

pub returns : goal.returns
returns c = one_list
