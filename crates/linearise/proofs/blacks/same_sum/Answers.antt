use Rattle.std.proofs.Common.{◌≡◌, ℕ, to_z, of_z, sym, ◌∙◌, ap, arith, true, nat_eq, eq-eqb}
use Rattle.std.specs.Int.{w32}
use Rattle.std.specs.Prelude.{◌+ℤ◌}
use Rattle.std.proofs.lemmas.Int.{ints}
use Rattle.std.proofs.lemmas.Bool.Decides.{nat_tests}
use Rattle.linearise.proofs.blacks.same_sum.Goals as goal

same_number : (m n : ℕ) → nat_eq m n ≡ true → m ≡ n
same_number m n h = grind (arith, nat_tests)

pub returns : goal.returns
returns c =
    let one = c.sum-one.result in
    let other = c.sum-other.result in
    let one_is : to_z w32 (of_z w32 one) ≡ one = omega (arith, ints, c.sum-one.ensures) in
    let other_is : to_z w32 (of_z w32 other) ≡ other = omega (arith, ints, c.sum-other.ensures) in
    let first : one ≡ c.args.x +ℤ c.args.more_x = omega (arith, ints, c.sum-one.ensures) in
    let second : other ≡ c.args.y +ℤ c.args.more_y = omega (arith, ints, c.sum-other.ensures) in (
      λ yes. sym first ∙ sym one_is ∙ ap (to_z w32) (same_number (of_z w32 one) (of_z w32 other) yes) ∙ other_is
          ∙ second,
      λ same. eq-eqb (of_z w32 one) (of_z w32 other) (ap (of_z w32) (first ∙ same ∙ sym second)),
    )
