use Rattle.std.proofs.Common.{◌≡◌}
use Rattle.opcode_list.specs.Params.{table_at}
use Rattle.opcode_list.proofs.params.table.Given as goal

abbrev pub invariant-loop-k : goal.invariant-loop-k
invariant-loop-k l = l.table.items ≡ table_at l.params l.place l.k
