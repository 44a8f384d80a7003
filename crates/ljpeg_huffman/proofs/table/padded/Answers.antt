use Rattle.std.proofs.Common.{ap₂, ◌++◌}
use Rattle.std.proofs.lemmas.List.{drop-replicate}
use Rattle.ljpeg_huffman.proofs.table.padded.Goals as goal

pub returns : goal.returns
returns c = ap₂ (λ x y. x ++ y) c.copy_from_slice.ensures.after (drop-replicate _ 256 0)
