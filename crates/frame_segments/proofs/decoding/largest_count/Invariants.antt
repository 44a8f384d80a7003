use Rattle.std.proofs.Common.{◌≡◌, ℕ, ◌<◌, ◌≤◌, Some, slice_get}
use Rattle.dng_tags.specs.Raw.{coded_count}
use Rattle.dng_tags.specs.declared.record.Segment.{Segment}
use Rattle.frame_segments.proofs.decoding.largest_count.Given as goal

abbrev pub invariant-loop-segment : goal.invariant-loop-segment
invariant-loop-segment l =
    (k : ℕ) (segment : Segment) → k < l.segment-index → slice_get l.segments k ≡ Some segment
    → coded_count segment ≤ l.largest
