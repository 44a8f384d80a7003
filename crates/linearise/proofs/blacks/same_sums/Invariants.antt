use Rattle.std.proofs.Common.{◌≡◌, ℕ, ◌<◌, pos, get_or}
use Rattle.std.specs.Prelude.{◌+ℤ◌}
use Rattle.linearise.proofs.blacks.same_sums.Given as goal

abbrev pub invariant-loop-k : goal.invariant-loop-k
invariant-loop-k l = (j : ℕ) → j < l.k → get_or l.xs j (pos 0) +ℤ l.x ≡ get_or l.ys j (pos 0) +ℤ l.y
