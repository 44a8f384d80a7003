use Rattle.std.proofs.Common.{◌*◌, ◌/◌, length, arith}
use Rattle.strip_unpack.proofs.GroupRows.{row_of_groups}
use Rattle.strip_unpack.proofs.groups.unpack_row_14.Goals as goal

pub returns : goal.returns
returns c =
    let groups = length c.args.out.now / 4 in
    row_of_groups 14 (groups * 4) (groups * 7) c.args.out.now c.args.bytes.now _ _ c.unpack_groups_14.auto.out
    (omega arith) c.unpack_groups_14.ensures.fits c.unpack_groups_14.ensures.spelled c.unpack_row.ensures
