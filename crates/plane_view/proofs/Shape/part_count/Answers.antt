use Rattle.std.proofs.Common.{arith}
use Rattle.std.proofs.lemmas.Nat.{mul-le}
use Rattle.plane_view.proofs.Cuts.{some_parts}
use Rattle.plane_view.proofs.Shape.part_count.Goals as goal

pub returns-clause-some : goal.returns-clause-some
returns-clause-some c =
    let down = some_parts c.args.self.now.rows c.args.rows c.requires.shape.some_rows c.requires.rows in
    let across = some_parts c.args.self.now.cols c.args.cols c.requires.shape.some_cols c.requires.cols in
    omega (
      arith,
      mul-le 1 1 c.div_ceil.result c.div_ceil-2.result
          (omega (arith, c.div_ceil.ensures, down)) (omega (arith, c.div_ceil-2.ensures, across)),
    )
