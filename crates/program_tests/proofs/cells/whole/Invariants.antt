use Rattle.std.proofs.Common.{◌≡◌, ◌-◌}
use Rattle.program_tests.proofs.cells.whole.Given as goal

abbrev pub invariant-loop-top : goal.invariant-loop-top
invariant-loop-top g l = l.session.stages ≡ l.fn.session.stages

abbrev pub decreases-loop-top : goal.decreases-loop-top
decreases-loop-top g l = l.rows - l.top
