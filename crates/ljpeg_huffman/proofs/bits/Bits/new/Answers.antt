use Rattle.ljpeg_huffman.proofs.DataLemmas.{bits_left-none}
use Rattle.ljpeg_huffman.proofs.bits.Bits.new.Goals as goal

pub returns : goal.returns
returns c = bits_left-none c.args.bytes.now
