use Rattle.std.proofs.Common.{arith}
use Rattle.opcode_list.proofs.Places.{length-rects_at, rects_at-more, rects_at-none}
use Rattle.opcode_list.proofs.params.rects.Goals as goal

pub loop-k-init : goal.loop-k-init
loop-k-init c = rw rects_at-none c.in_ok-rects.ensures.items

pub loop-k-preserved : goal.loop-k-preserved
loop-k-preserved c = rw (rects_at-more, ← c.loop-k.invariant, ← c.rect.ensures) c.in_ok-push.ensures.items

pub returns-clause-count : goal.returns-clause-count
returns-clause-count c = rw (c.from_vec.ensures, c.loop-k.invariant, length-rects_at) (omega arith)
