use Rattle.std.proofs.Common.{◌*◌, take}
use Rattle.strip_unpack.proofs.Unpacking.{Unpacked}
use Rattle.strip_unpack.proofs.groups.unpack_groups_12.Given as goal

abbrev pub invariant-loop-group : goal.invariant-loop-group
invariant-loop-group l = Unpacked 12 0 0 (take (l.group * 2) l.out) (take (l.group * 3) l.bytes)
