use Rattle.std.specs.Cmp.Lexicographic.{pointwise_decides}
use Rattle.lists.proofs.tests.same_lists.Goals as goal

pub returns : goal.returns
returns g c = rw c.eq.ensures (pointwise_decides c.requires c.args.a.now c.args.b.now)
