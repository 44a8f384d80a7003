use Rattle.std.proofs.Common.{◌<◌, ◌^◌, All, sym, subst, arith}
use Rattle.std.proofs.lemmas.List.Elements.{All-from_get_or}
use Rattle.tiff_dirs.specs.declared.Order.{Order}
use Rattle.strip_unpack.specs.Samples.{Spells, sample_bits}
use Rattle.strip_unpack.proofs.BytePairs.{spells_big, spells_little}
use Rattle.strip_unpack.proofs.unpack_byte_pairs.Goals as goal

pub returns-in-Little : goal.returns-in-Little
returns-in-Little c =
    let out = c.read_u16_into.new.dst in
    let bytes = c.args.bytes.now in
    let P : Order → Type 0 = λ order. Spells (sample_bits order 16) 16 out bytes in
    let fits : All (λ x. x < 2 ^ 16) out =
    All-from_get_or (λ x. x < 2 ^ 16) out 0 (λ k h. let small = c.type_inv.out k in omega arith) in
    subst P (sym c.in-Little.is)
    (spells_little bytes out (omega arith)
    (λ k. let small = c.type_inv.bytes k in omega arith) fits c.read_u16_into.ensures)

pub returns-in-Big : goal.returns-in-Big
returns-in-Big c =
    let out = c.read_u16_into-in-Big.new.dst in
    let bytes = c.args.bytes.now in
    let P : Order → Type 0 = λ order. Spells (sample_bits order 16) 16 out bytes in
    let fits : All (λ x. x < 2 ^ 16) out =
    All-from_get_or (λ x. x < 2 ^ 16) out 0 (λ k h. let small = c.type_inv.out k in omega arith) in
    subst P (sym c.in-Big.is)
    (spells_big bytes out (omega arith)
    (λ k. let small = c.type_inv.bytes k in omega arith) fits c.read_u16_into-in-Big.ensures)
