use Rattle.std.proofs.Common.{◌≡◌, map}
use Rattle.std.specs.List.{range_with_len}
use Rattle.dng_tags.specs.Layout.{segment_at}
use Rattle.dng_tags.proofs.layout.Layout.segments.Given as goal

abbrev pub invariant-loop-k : goal.invariant-loop-k
invariant-loop-k l = l.segments.items ≡ map (segment_at l.shape l.self) (range_with_len 0 l.k)
