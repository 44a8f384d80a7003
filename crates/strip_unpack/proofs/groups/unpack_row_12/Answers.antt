use Rattle.std.proofs.Common.{◌*◌, ◌/◌, length, arith}
use Rattle.strip_unpack.proofs.GroupRows.{row_of_groups}
use Rattle.strip_unpack.proofs.groups.unpack_row_12.Goals as goal

pub returns : goal.returns
returns c =
    let groups = length c.args.out.now / 2 in
    row_of_groups 12 (groups * 2) (groups * 3) c.args.out.now c.args.bytes.now _ _ c.unpack_groups_12.auto.out
    (omega arith) c.unpack_groups_12.ensures.fits c.unpack_groups_12.ensures.spelled c.unpack_row.ensures
