use Rattle.std.proofs.Common.{rules}
use Rattle.stage_deps.proofs.GridCells.{few_cells}
use Rattle.stage_deps.proofs.grid.Grid.count.Goals as goal

pub returns-clause-most : goal.returns-clause-most
returns-clause-most c = search (
  rules,
  few_cells c.args.self.now.shape c.args.self.now.side c.args.self.now.limits
      c.args.self.now.least,
)
