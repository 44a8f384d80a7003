use Rattle.std.proofs.Common.{◌≡◌, ℕ, ◌%◌, ◌<◌, min, length}
use Rattle.std.specs.Prelude.{slice_index}
use Rattle.colour_matrix.proofs.factors.Gains.new.Given as goal

abbrev pub invariant-loop-i : goal.invariant-loop-i
invariant-loop-i l = record {
  long : length l.gain ≡ 384;
  each : (i : ℕ) → i < l.i → slice_index l.gain i ≡ min (slice_index l.gains (i % 3)) 65535;
}
