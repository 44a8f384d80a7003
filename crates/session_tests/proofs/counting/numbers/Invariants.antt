use Rattle.std.proofs.Common.{◌≡◌, length}
use Rattle.session_tests.proofs.counting.numbers.Given as goal

abbrev pub invariant-loop-i : goal.invariant-loop-i
invariant-loop-i l = length l.numbers.items ≡ l.count
