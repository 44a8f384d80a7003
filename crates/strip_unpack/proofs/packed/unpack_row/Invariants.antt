use Rattle.std.proofs.Common.{◌≡◌, ◌+◌, ◌*◌, ◌<◌, take}
use Rattle.strip_unpack.proofs.Unpacking.{Unpacked}
use Rattle.strip_unpack.proofs.packed.unpack_row.Given as goal

abbrev pub invariant-loop-byte : goal.invariant-loop-byte
invariant-loop-byte l = record {
  read : 8 * l.byte-index ≡ l.i * l.depth + l.count;
  few : l.count < l.depth;
  unpacked : Unpacked l.depth l.count l.pending (take l.i l.out) (take l.byte-index l.bytes);
}
