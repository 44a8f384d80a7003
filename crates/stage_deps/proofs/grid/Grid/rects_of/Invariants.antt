use Rattle.std.proofs.Common.{◌≡◌, take}
use Rattle.stage_deps.specs.Cells.{cells_at}
use Rattle.stage_deps.specs.Grids.{grid_cells}
use Rattle.stage_deps.proofs.grid.Grid.rects_of.Given as goal

-- the cells so far
abbrev pub invariant-loop-k : goal.invariant-loop-k
invariant-loop-k l = l.rects.items ≡ cells_at (grid_cells l.self.shape l.self.side) (take l.k-index l.numbers)
