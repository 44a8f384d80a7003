use Rattle.std.proofs.Common.{◌≡◌, ◌*◌, ◌++◌, take}
use Rattle.frame_make.specs.Made.{packed_row}
use Rattle.frame_make.proofs.strips.append_packed.Given as goal

abbrev pub invariant-loop-k : goal.invariant-loop-k
invariant-loop-k l = l.out.items ≡ l.initial.out.items ++ packed_row (take (2 * l.k) l.samples)
