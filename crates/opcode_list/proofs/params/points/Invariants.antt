use Rattle.std.proofs.Common.{◌≡◌}
use Rattle.opcode_list.specs.Params.{points_at}
use Rattle.opcode_list.proofs.params.points.Given as goal

abbrev pub invariant-loop-k : goal.invariant-loop-k
invariant-loop-k l = l.points.items ≡ points_at l.params l.place l.k
