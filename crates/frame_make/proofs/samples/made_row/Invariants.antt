use Rattle.std.proofs.Common.{◌≡◌, map}
use Rattle.std.specs.List.{range_with_len}
use Rattle.frame_make.specs.Made.{made_sample}
use Rattle.frame_make.proofs.samples.made_row.Given as goal

abbrev pub invariant-loop-col : goal.invariant-loop-col
invariant-loop-col l = l.samples.items ≡ map (made_sample l.number l.row) (range_with_len 0 l.col)
