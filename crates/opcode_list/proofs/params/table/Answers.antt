use Rattle.std.proofs.Common.{arith}
use Rattle.opcode_list.proofs.Places.{length-table_at, table_at-more, table_at-none}
use Rattle.opcode_list.proofs.params.table.Goals as goal

pub loop-k-init : goal.loop-k-init
loop-k-init c = rw table_at-none c.in_ok-table.ensures.items

pub loop-k-preserved : goal.loop-k-preserved
loop-k-preserved c = rw (table_at-more, ← c.loop-k.invariant, ← c.short.ensures) c.in_ok-push.ensures.items

pub returns-clause-count : goal.returns-clause-count
returns-clause-count c = rw (c.from_vec.ensures, c.loop-k.invariant, length-table_at) (omega arith)
