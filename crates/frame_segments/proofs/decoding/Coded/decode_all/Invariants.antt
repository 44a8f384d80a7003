use Rattle.std.proofs.Common.{◌≡◌, ℕ, ◌+◌, ◌<◌, Some, drop, slice_get}
use Rattle.dng_tags.specs.Raw.{fault_from}
use Rattle.dng_tags.specs.declared.record.Segment.{Segment}
use Rattle.frame_segments.specs.inner.Buffers.{Holds, IsDecodable}
use Rattle.frame_segments.proofs.decoding.Coded.decode_all.Given as goal

abbrev pub invariant-loop-k : goal.invariant-loop-k
invariant-loop-k l = record {
  faults : fault_from l.self.bytes.now l.self.coding 0 l.segments ≡ fault_from l.self.bytes.now l.self.coding l.k
      (drop l.k l.segments);
  decodable : (k : ℕ) (segment : Segment) → k < l.k → slice_get l.segments k ≡ Some segment
      → IsDecodable l.self.bytes.now l.self.coding segment;
  last : (k : ℕ) (segment : Segment) → k + 1 ≡ l.k → slice_get l.segments k ≡ Some segment
      → Holds l.buffer l.self.bytes.now l.self.coding segment;
}
