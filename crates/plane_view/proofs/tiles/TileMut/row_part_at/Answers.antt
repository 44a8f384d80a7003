use Rattle.std.proofs.Common.{◌-◌, arith}
use Rattle.plane_view.specs.Tiles.{loan}
use Rattle.plane_view.proofs.Writes.{row_part_in, row_part_inside}
use Rattle.plane_view.proofs.tiles.TileMut.row_part_at.Goals as goal

pub returns-clause-within : goal.returns-clause-within
returns-clause-within c =
    let t = c.args.self.now in
    omega (
      arith,
      row_part_inside (loan t) c.args.r c.args.left (c.args.right - c.args.left) t.long
          (row_part_in t.home t.rect c.args.r c.args.left c.args.right t.inside c.requires),
    )
