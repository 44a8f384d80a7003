use Rattle.std.proofs.Common.{◌≡◌}
use Rattle.opcode_list.specs.Params.{rects_at}
use Rattle.opcode_list.proofs.params.rects.Given as goal

abbrev pub invariant-loop-k : goal.invariant-loop-k
invariant-loop-k l = l.rects.items ≡ rects_at l.params l.place l.k
