use Rattle.std.proofs.Common.{subst}
use Rattle.ljpeg_huffman.specs.Words.{IsPrefixFree}
use Rattle.ljpeg_huffman.proofs.TableLemmas.{prefix_free_table}
use Rattle.ljpeg_huffman.proofs.table.CodeTable.prefix_free.Goals as goal

pub returns : goal.returns
returns c =
    subst IsPrefixFree c.self.view_is
    (prefix_free_table c.self.inside.counts c.self.inside.values c.self.invariant.0.lengths c.self.invariant.0.fits)
