use Rattle.std.proofs.Common.{get_or, pos, arith}
use Rattle.dng_tags.specs.Colours.{gain_of}
use Rattle.tag_rules.proofs.ListLemmas.{map_by_all}
use Rattle.dng_tags.proofs.colours.fill_gains.Goals as goal

pub returns-clause-gains : goal.returns-clause-gains
returns-clause-gains c =
    map_by_all (gain_of (get_or c.args.neutral.now 1 (pos 0, pos 0))) c.args.neutral.now c.loop-i.gains (pos 0, pos 0) 0
    (omega arith)
    (λ k within. c.loop-i.invariant.gains k (omega arith))
