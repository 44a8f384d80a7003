use Rattle.std.proofs.Common.{◌≡◌, map}
use Rattle.std.specs.List.{range_with_len}
use Rattle.plane_view.specs.Cuts.{part}
use Rattle.stage_deps.proofs.grid.Grid.cells.Given as goal

-- the cells so far
abbrev pub invariant-loop-k : goal.invariant-loop-k
invariant-loop-k l = l.cells.items ≡ map (part l.self.shape l.self.side l.self.side) (range_with_len 0 l.k)
