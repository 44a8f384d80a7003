use Rattle.std.proofs.Common.{◌*◌, ◌≤◌, pos, arith, rules, ◌∙◌, ap, lit<}
use Rattle.std.specs.Prelude.{◌*ℤ◌, ◌+ℤ◌, unsigned_abs, FitsSigned}
use Rattle.std.specs.Int.{w64, int_div_euclid}
use Rattle.std.proofs.lemmas.Int.{to_z-of_z, ints, fits_signed_mul, unsigned_abs-mul}
use Rattle.std.proofs.lemmas.Nat.{mul-le}
use Rattle.tag_rules.specs.Quantities.{in_parts}
use Rattle.tag_rules.proofs.quantities.in_parts.Goals as goal

pub returns : goal.returns
unfolding in_parts
returns c =
    let from : FitsSigned w64 c.from.result = search rules in
    let numerator : FitsSigned w64 c.args.numerator = search rules in
    let denominator : FitsSigned w64 c.args.denominator = search rules in
    let first : unsigned_abs c.from.result ≤ 131072 = omega (arith, ints) in
    let second : unsigned_abs c.args.numerator ≤ 4294967296 = omega (arith, ints) in
    let product : FitsSigned w64 (c.from.result *ℤ c.args.numerator) =
    fits_signed_mul w64 c.from.result c.args.numerator 131072 4294967296 first second (lit< tt) in
    let size : unsigned_abs (c.from.result *ℤ c.args.numerator) ≤ 131072 * 4294967296 =
    rw unsigned_abs-mul (mul-le (unsigned_abs c.from.result) (unsigned_abs c.args.numerator) 131072 4294967296 first
    second) in
    let above : FitsSigned w64 ((c.from.result *ℤ c.args.numerator) +ℤ c.args.denominator) = omega (arith, ints) in
    let below : FitsSigned w64 (pos 2 *ℤ c.args.denominator) = omega (arith, ints) in
    let value = simp to_z-of_z at c.div_euclid.ensures in
    let whole : FitsSigned w64 c.div_euclid.result = search rules in
    to_z-of_z w64 c.div_euclid.result whole
    ∙ (value ∙ ap (λ twice. int_div_euclid ((twice *ℤ c.args.numerator) +ℤ c.args.denominator)
    (pos 2 *ℤ c.args.denominator)) c.from.ensures)
