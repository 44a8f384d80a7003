use Rattle.std.proofs.Common.{◌≡◌, ◌+◌, ◌*◌, ◌≤◌, ◌++◌, length, take, option_map}
use Rattle.dev_settings.specs.Values.{points_of}
use Rattle.dev_settings.proofs.written.knots.Given as goal

-- the points so far, before those of the integers that are left
abbrev pub invariant-loop-rest : goal.invariant-loop-rest
invariant-loop-rest l = record {
  size : length l.points ≡ 16;
  few : length l.integers ≤ 32;
  left : 2 * l.used + length l.rest ≡ length l.integers;
  so_far : option_map (λ rest. take l.used l.points ++ rest) (points_of l.rest) ≡ points_of l.integers;
}

abbrev pub decreases-loop-rest : goal.decreases-loop-rest
decreases-loop-rest l = length l.rest
