use Rattle.std.proofs.Common.{◌≡◌, take}
use Rattle.stage_deps.specs.Cells.{cells_at}
use Rattle.stage_deps.proofs.cells.rects_of.Given as goal

-- the cells so far
abbrev pub invariant-loop-k : goal.invariant-loop-k
invariant-loop-k l = l.rects.items ≡ cells_at l.cells (take l.k-index l.numbers)
