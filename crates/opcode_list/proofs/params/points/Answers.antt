use Rattle.std.proofs.Common.{arith}
use Rattle.opcode_list.proofs.Places.{length-points_at, points_at-more, points_at-none}
use Rattle.opcode_list.proofs.params.points.Goals as goal

pub loop-k-init : goal.loop-k-init
loop-k-init c = rw points_at-none c.in_ok-points.ensures.items

pub loop-k-preserved : goal.loop-k-preserved
loop-k-preserved c =
    rw (points_at-more, ← c.loop-k.invariant, ← c.long.ensures, ← c.long-in-loop-k.ensures) c.in_ok-push.ensures.items

pub returns-clause-count : goal.returns-clause-count
returns-clause-count c = rw (c.from_vec.ensures, c.loop-k.invariant, length-points_at) (omega arith)
