use Rattle.std.proofs.Common.{arith}
use Rattle.stage_deps.proofs.Coverage.{all_seen}
use Rattle.stage_deps.proofs.cells.meeting_cells.Goals as goal

pub returns : goal.returns
returns c = all_seen c.args.cells.now c.args.rects.now c.loop-i.i c.loop-i.numbers.items c.loop-i.invariant
    (omega arith)
