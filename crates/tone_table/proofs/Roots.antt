-- Roots that are rounded down.
use Rattle.std.proofs.Common.{◌≡◌, ℕ, zero, suc, ◌+◌, ◌*◌, ◌<◌, ◌≤◌, Bool, true, false, nat_le, sym, subst, inl, inr}
use Rattle.std.proofs.Common.{arith}
use Rattle.std.proofs.lemmas.Bool.{cases_lt}
use Rattle.std.proofs.lemmas.Bool.Decides.{nat_tests}
use Rattle.std.proofs.lemmas.Nat.{mul-le}
use Rattle.tone_table.specs.Tones.{greatest, root_of}

-- the greatest number that passes
greatest_is : (n y : ℕ) (passes : ℕ → Bool) → y ≤ n → passes y ≡ true → ((z : ℕ) → y < z → z ≤ n → passes z ≡ false)
    → greatest n passes ≡ y
unfolding greatest
greatest_is zero y passes le pass none = omega arith
greatest_is (suc n) y passes le pass none =
    elim (cases_lt y (suc n)) [
      | inl below ↦
          rw (none (suc n) below (omega arith))
          (greatest_is n y passes (omega arith) pass (λ z above within. none z above (omega arith)))
      | inr here ↦
          let same : y ≡ suc n = omega arith in
          let last : passes (suc n) ≡ true = subst (λ (m : ℕ). passes m ≡ true) same pass in
          rw last (sym same)
    ]

below_square : (y : ℕ) → y ≤ y * y
below_square zero = omega arith
below_square (suc y) =
    let most : 1 * suc y ≤ suc y * suc y = mul-le 1 (suc y) (suc y) (suc y) (omega arith) (omega arith) in
    omega arith

-- the root is the number whose square is not greater, and the next one's is
pub root_is : (n y : ℕ) → y * y ≤ n → n < (y + 1) * (y + 1) → root_of n ≡ y
unfolding root_of
root_is n y square next =
    let least = below_square y in
    greatest_is n y (λ z. nat_le (z * z) n) (omega arith) (grind (arith, nat_tests))
    (λ z above within. let more : (y + 1) * (y + 1) ≤ z * z = mul-le (y + 1) (y + 1) z z (omega arith) (omega arith) in
    grind (arith, nat_tests))
