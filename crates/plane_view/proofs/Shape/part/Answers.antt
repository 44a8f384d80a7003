use Rattle.std.proofs.Common.{rules}
use Rattle.plane_view.proofs.Cuts.{part_at, part_left, part_non_empty, part_top}
use Rattle.plane_view.proofs.Shape.part.Goals as goal

pub overflow_mul-top : goal.overflow_mul-top
overflow_mul-top c =
    search (rules, part_top c.args.self.now c.args.rows c.args.cols c.args.k c.requires.rows c.requires.within)

pub overflow_mul-left : goal.overflow_mul-left
overflow_mul-left c =
    search (rules, part_left c.args.self.now c.args.rows c.args.cols c.args.k c.requires.cols c.requires.within)

pub returns-clause-found : goal.returns-clause-found
returns-clause-found c =
    search (rules, part_at c.args.self.now c.args.rows c.args.cols c.args.k c.requires.within)

pub returns-clause-some : goal.returns-clause-some
returns-clause-some c =
    search (
      rules,
      part_non_empty c.args.self.now c.args.rows c.args.cols c.args.k c.requires.rows c.requires.cols
          c.requires.within,
    )
