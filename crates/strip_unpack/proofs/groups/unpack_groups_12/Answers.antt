use Rattle.std.proofs.Common.{◌+◌, ◌*◌, set, take, refl, ◌∙◌, arith}
use Rattle.std.proofs.lemmas.List.{length-set}
use Rattle.strip_unpack.proofs.GroupRows.{all_groups}
use Rattle.strip_unpack.proofs.Unpacking.{group_end, next_byte, next_field, nothing_yet, whole_register}
use Rattle.strip_unpack.proofs.groups.unpack_groups_12.Goals as goal

pub loop-group-init : goal.loop-group-init
loop-group-init c = nothing_yet 12

pub loop-group-preserved : goal.loop-group-preserved
loop-group-preserved c =
    let l = c.loop-group in
    let bytes = c.args.bytes.now in
    let at = l.group * 3 in
    let end = (l.group + 1) * 3 in
    let first = l.group * 2 in
    let register = c.with_byte-register.result in
    let b0 = c.type_inv.bytes at in
    let b1 = c.type_inv.bytes (at + 1) in
    let b2 = c.type_inv.bytes (at + 2) in
    let u1 = next_byte 12 0 0 c.from.result at (at + 1) _ bytes (c.from.ensures ∙ omega arith) refl (omega arith)
    (omega arith) l.invariant in
    let u2 = next_byte 12 8 c.from.result c.with_byte.result (at + 1) (at + 2) _ bytes c.with_byte.ensures (omega arith)
    (omega arith) (omega arith) u1 in
    let u3 = next_byte 12 16 c.with_byte.result register (at + 2) end _ bytes c.with_byte-register.ensures (omega arith)
    (omega arith) (omega arith) u2 in
    let one = next_field 12 24 12 register first (first + 1) c.field.result l.out (take end bytes) refl refl
    (omega arith) c.field.ensures (whole_register 12 24 register _ _ u3) in
    let written = set l.out first c.field.result in
    let two = next_field 12 12 0 register (first + 1) ((l.group + 1) * 2) c.field-in-loop-group.result written
    (take end bytes) (omega arith) refl
    (omega (arith, length-set l.out first c.field.result)) c.field-in-loop-group.ensures one in
    group_end 12 register _ _ two

pub returns-clause-spelled : goal.returns-clause-spelled
returns-clause-spelled c =
    let l = c.loop-group in
    all_groups 12 (l.group * 2) (l.group * 3) l.out c.args.bytes.now (omega arith) (omega arith) l.invariant
