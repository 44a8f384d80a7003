use Rattle.std.proofs.Common.{ℕ, ◌<◌}
use Rattle.linearise.specs.inner.Held.{SameRow}
use Rattle.linearise.proofs.blacks.Blacks.same_rows.Given as goal

abbrev pub invariant-loop-r : goal.invariant-loop-r
invariant-loop-r l = (i : ℕ) → i < l.r → SameRow l.self l.other i
