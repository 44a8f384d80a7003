use Rattle.std.proofs.Common.{◌≡◌, ◌++◌, drop}
use Rattle.stage_deps.specs.Cells.{meeting, meeting_from}
use Rattle.stage_deps.specs.Grids.{grid_cells}
use Rattle.stage_deps.proofs.grid.Grid.meeting.Given as goal

-- the numbers so far, and those of the cells that are left, are those of all cells
abbrev pub invariant-loop-k : goal.invariant-loop-k
invariant-loop-k l = l.numbers.items ++ meeting_from l.rects l.k (drop l.k (grid_cells l.self.shape l.self.side))
    ≡ meeting (grid_cells l.self.shape l.self.side) l.rects
