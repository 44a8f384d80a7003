use Rattle.std.proofs.Common.{◌≡◌, length}
use Rattle.session_tests.proofs.keys.steps.Given as goal

abbrev pub invariant-loop : goal.invariant-loop
invariant-loop g l = length l.session.stages ≡ 7
