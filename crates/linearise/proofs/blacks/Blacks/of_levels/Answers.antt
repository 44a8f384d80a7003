use Rattle.linearise.proofs.BlackLevels.{levels_are}
use Rattle.linearise.proofs.blacks.Blacks.of_levels.Goals as goal

pub returns-clause-blacks : goal.returns-clause-blacks
returns-clause-blacks c =
    levels_are c.args.levels.now c.args.rows c.args.cols c.in_ok-across.across c.in_ok-down.down
    c.requires.sides.some_cols c.requires.pattern.some_rows c.in_ok-across.ensures.long c.in_ok-down.ensures.long
    c.in_ok-across.ensures.levels c.in_ok-down.ensures.levels
