use Rattle.std.specs.Fork.{slice_chunk}
use Rattle.std.proofs.Common.{ℕ, ◌<◌}
use Rattle.strip_unpack.specs.Samples.{Spells, sample_bits}
use Rattle.strip_unpack.proofs.unpack.Given as goal

abbrev pub invariant-loop-row : goal.invariant-loop-row
invariant-loop-row l =
    (k : ℕ) → k < l.row → Spells (sample_bits l.order l.depth) l.depth (slice_chunk l.out l.cols k)
    (slice_chunk l.bytes l.row_length k)
