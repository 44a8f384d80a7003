use Rattle.std.proofs.Common.{◌+◌, ◌*◌, refl, ◌∙◌, arith}
use Rattle.strip_unpack.proofs.GroupRows.{all_groups, four_fields}
use Rattle.strip_unpack.proofs.Unpacking.{next_byte, nothing_yet}
use Rattle.strip_unpack.proofs.groups.unpack_groups_14.Goals as goal

pub loop-group-init : goal.loop-group-init
loop-group-init c = nothing_yet 14

pub loop-group-preserved : goal.loop-group-preserved
loop-group-preserved c =
    let l = c.loop-group in
    let bytes = c.args.bytes.now in
    let at = l.group * 7 in
    let end = (l.group + 1) * 7 in
    let byte_0 = c.type_inv.bytes at in
    let byte_1 = c.type_inv.bytes (at + 1) in
    let byte_2 = c.type_inv.bytes (at + 2) in
    let byte_3 = c.type_inv.bytes (at + 3) in
    let byte_4 = c.type_inv.bytes (at + 4) in
    let byte_5 = c.type_inv.bytes (at + 5) in
    let byte_6 = c.type_inv.bytes (at + 6) in
    let read_1 = next_byte 14 0 0 c.from.result at (at + 1) _ bytes (c.from.ensures ∙ omega arith) refl (omega arith)
    (omega arith) l.invariant in
    let read_2 = next_byte 14 8 c.from.result c.with_byte-register.result (at + 1)
    (at + 2) _ bytes c.with_byte-register.ensures (omega arith) (omega arith) (omega arith) read_1 in
    let read_3 = next_byte 14 16 c.with_byte-register.result c.with_byte-register-in-loop-group.result (at + 2)
    (at + 3) _ bytes c.with_byte-register-in-loop-group.ensures (omega arith) (omega arith) (omega arith) read_2 in
    let read_4 = next_byte 14 24 c.with_byte-register-in-loop-group.result c.with_byte-register-in-loop-group-2.result
    (at + 3) (at + 4) _ bytes c.with_byte-register-in-loop-group-2.ensures (omega arith) (omega arith)
    (omega arith) read_3 in
    let read_5 = next_byte 14 32 c.with_byte-register-in-loop-group-2.result c.with_byte-register-in-loop-group-3.result
    (at + 4) (at + 5) _ bytes c.with_byte-register-in-loop-group-3.ensures (omega arith) (omega arith)
    (omega arith) read_4 in
    let read_6 = next_byte 14 40 c.with_byte-register-in-loop-group-3.result c.with_byte-register-in-loop-group-4.result
    (at + 5) (at + 6) _ bytes c.with_byte-register-in-loop-group-4.ensures (omega arith) (omega arith)
    (omega arith) read_5 in
    let read_7 = next_byte 14 48 c.with_byte-register-in-loop-group-4.result c.with_byte-register-in-loop-group-5.result
    (at + 6) end _ bytes c.with_byte-register-in-loop-group-5.ensures (omega arith) (omega arith)
    (omega arith) read_6 in
    four_fields 14 c.with_byte-register-in-loop-group-5.result (l.group * 4) ((l.group + 1) * 4) _ _ _ _ l.out _
    (omega arith) (omega arith) c.field.ensures c.field-in-loop-group.ensures c.field-in-loop-group-2.ensures
    c.field-in-loop-group-3.ensures read_7

pub returns-clause-spelled : goal.returns-clause-spelled
returns-clause-spelled c =
    let l = c.loop-group in
    all_groups 14 (l.group * 4) (l.group * 7) l.out c.args.bytes.now (omega arith) (omega arith) l.invariant
