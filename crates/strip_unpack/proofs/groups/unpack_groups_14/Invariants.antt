use Rattle.std.proofs.Common.{◌*◌, take}
use Rattle.strip_unpack.proofs.Unpacking.{Unpacked}
use Rattle.strip_unpack.proofs.groups.unpack_groups_14.Given as goal

abbrev pub invariant-loop-group : goal.invariant-loop-group
invariant-loop-group l = Unpacked 14 0 0 (take (l.group * 4) l.out) (take (l.group * 7) l.bytes)
