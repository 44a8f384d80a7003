use Rattle.std.proofs.Common.{ℕ, Bool, List, sym, subst, arith}
use Rattle.strip_unpack.specs.Samples.{Spells, sample_bits}
use Rattle.strip_unpack.proofs.FileOrder.{own_digits}
use Rattle.strip_unpack.proofs.unpack_row.Goals as goal

pub returns-in-8 : goal.returns-in-8
returns-in-8 c =
    let out = c.unpack_bytes.new.out in
    let P : ℕ → Type 0 = λ depth. Spells (sample_bits c.args.order depth) depth out c.args.bytes.now in
    let Q : (ℕ → List Bool) → Type 0 = λ f. Spells f 8 c.unpack_bytes.new.out c.args.bytes.now in
    subst P (sym c.in-8.is) (subst Q (sym (own_digits c.args.order 8 (omega arith))) c.unpack_bytes.ensures)

pub returns-in_default : goal.returns-in_default
returns-in_default c =
    let Q : (ℕ → List Bool) → Type 0 = λ f. Spells f c.args.depth c.unpack_row.new.out c.args.bytes.now in
    subst Q (sym (own_digits c.args.order c.args.depth (omega (arith, c.in_default)))) c.unpack_row.ensures

pub returns-in-12 : goal.returns-in-12
returns-in-12 c =
    let out = c.unpack_row_12.new.out in
    let P : ℕ → Type 0 = λ depth. Spells (sample_bits c.args.order depth) depth out c.args.bytes.now in
    let Q : (ℕ → List Bool) → Type 0 = λ f. Spells f 12 c.unpack_row_12.new.out c.args.bytes.now in
    subst P (sym c.in-12.is) (subst Q (sym (own_digits c.args.order 12 (omega arith))) c.unpack_row_12.ensures)

pub returns-in-10 : goal.returns-in-10
returns-in-10 c =
    let out = c.unpack_row_10.new.out in
    let P : ℕ → Type 0 = λ depth. Spells (sample_bits c.args.order depth) depth out c.args.bytes.now in
    let Q : (ℕ → List Bool) → Type 0 = λ f. Spells f 10 c.unpack_row_10.new.out c.args.bytes.now in
    subst P (sym c.in-10.is) (subst Q (sym (own_digits c.args.order 10 (omega arith))) c.unpack_row_10.ensures)

pub returns-in-14 : goal.returns-in-14
returns-in-14 c =
    let out = c.unpack_row_14.new.out in
    let P : ℕ → Type 0 = λ depth. Spells (sample_bits c.args.order depth) depth out c.args.bytes.now in
    let Q : (ℕ → List Bool) → Type 0 = λ f. Spells f 14 c.unpack_row_14.new.out c.args.bytes.now in
    subst P (sym c.in-14.is) (subst Q (sym (own_digits c.args.order 14 (omega arith))) c.unpack_row_14.ensures)
