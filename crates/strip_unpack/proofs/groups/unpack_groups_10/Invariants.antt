use Rattle.std.proofs.Common.{◌*◌, take}
use Rattle.strip_unpack.proofs.Unpacking.{Unpacked}
use Rattle.strip_unpack.proofs.groups.unpack_groups_10.Given as goal

abbrev pub invariant-loop-group : goal.invariant-loop-group
invariant-loop-group l = Unpacked 10 0 0 (take (l.group * 4) l.out) (take (l.group * 5) l.bytes)
