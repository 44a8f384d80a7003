use Rattle.std.proofs.Common.{arith, rules, below_more}
use Rattle.std.specs.Prelude.{IsTrue}
use Rattle.std.proofs.lemmas.Int.{ints}
use Rattle.linearise.proofs.blacks.same_sums.Goals as goal

pub loop-k-preserved : goal.loop-k-preserved
loop-k-preserved c =
    let within_x = c.requires.xs c.loop-k.k (omega arith) in
    let within_y = c.requires.ys c.loop-k.k (omega arith) in
    let yes : IsTrue c.same_sum.result = search rules in
    let same = c.same_sum.ensures.0 yes in
    below_more _ _ c.loop-k.invariant (omega (arith, ints, same, within_x, within_y))
