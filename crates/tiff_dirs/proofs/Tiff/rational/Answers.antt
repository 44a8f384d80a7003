use Rattle.std.proofs.Common.{arith}
use Rattle.tiff_dirs.proofs.ValuesLemmas.{size_of-rational, size_of-slong, size_of-srational, size_of-sshort}
use Rattle.tiff_dirs.proofs.ValuesLemmas.{value_room}
use Rattle.tiff_dirs.proofs.Tiff.rational.Goals as goal

pub long-requires : goal.long-requires
long-requires c =
    omega (arith, value_room _ _ _ _ _ (size_of-rational _ c.in-5.is) c.requires.index c.requires.room)

pub long-requires-in-5 : goal.long-requires-in-5
long-requires-in-5 c =
    omega (arith, value_room _ _ _ _ _ (size_of-rational _ c.in-5.is) c.requires.index c.requires.room)

pub signed_short-requires : goal.signed_short-requires
signed_short-requires c =
    value_room _ _ _ _ _ (size_of-sshort _ c.in-8.is) c.requires.index c.requires.room

pub signed_long-requires : goal.signed_long-requires
signed_long-requires c =
    value_room _ _ _ _ _ (size_of-slong _ c.in-9.is) c.requires.index c.requires.room

pub signed_long-requires-in-10 : goal.signed_long-requires-in-10
signed_long-requires-in-10 c =
    omega (arith, value_room _ _ _ _ _ (size_of-srational _ c.in-10.is) c.requires.index c.requires.room)

pub signed_long-requires-in-10-2 : goal.signed_long-requires-in-10-2
signed_long-requires-in-10-2 c =
    omega (arith, value_room _ _ _ _ _ (size_of-srational _ c.in-10.is) c.requires.index c.requires.room)
