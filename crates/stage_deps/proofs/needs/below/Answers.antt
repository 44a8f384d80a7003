use Rattle.std.proofs.Common.{sym, subst}
use Rattle.std.specs.List.Sorted.{IsStrictlyIncreasing}
use Rattle.stage_deps.proofs.Coverage.{meeting_rises}
use Rattle.stage_deps.proofs.needs.below.Goals as goal

pub returns-clause-rising : goal.returns-clause-rising
returns-clause-rising g c = subst IsStrictlyIncreasing (sym c.in_ok-meeting_cells.ensures)
    (meeting_rises c.args.lower.now c.deref.result.now)
