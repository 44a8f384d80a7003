use Rattle.std.proofs.Common.{◌≡◌, ◌++◌, drop}
use Rattle.stage_deps.specs.Cells.{meeting, meeting_from}
use Rattle.stage_deps.proofs.cells.meeting_cells.Given as goal

-- the numbers so far, and those of the cells that are left, are those of all cells
abbrev pub invariant-loop-i : goal.invariant-loop-i
invariant-loop-i l = l.numbers.items ++ meeting_from l.rects l.i (drop l.i l.cells) ≡ meeting l.cells l.rects
