use Rattle.std.proofs.Common.{◌≡◌, take}
use Rattle.strip_unpack.proofs.unpack_bytes.Given as goal

abbrev pub invariant-loop-i : goal.invariant-loop-i
invariant-loop-i l = take l.i l.out ≡ take l.i l.bytes
