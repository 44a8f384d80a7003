use Rattle.std.proofs.Common.{◌≡◌, length}
use Rattle.session_tests.proofs.counting.open.Given as goal

abbrev pub invariant-loop-k : goal.invariant-loop-k
invariant-loop-k l = length l.stages.items ≡ l.k
