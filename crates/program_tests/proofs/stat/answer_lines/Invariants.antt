use Rattle.std.proofs.Common.{length}
use Rattle.developer.specs.Develop.{IsInForce}
use Rattle.developer.specs.Sessions.{in_force}
use Rattle.program_tests.proofs.stat.answer_lines.Given as goal

abbrev pub invariant-loop-rest : goal.invariant-loop-rest
invariant-loop-rest g l = IsInForce (in_force l.frame l.settings l.session)

-- the bytes that are left
abbrev pub decreases-loop-rest : goal.decreases-loop-rest
decreases-loop-rest g l = length l.rest
