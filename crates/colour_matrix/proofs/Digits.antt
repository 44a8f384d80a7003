-- Products by digits.
use Rattle.std.proofs.Common.{◌≡◌, ◌≢◌, ℕ, ◌+◌, ◌*◌, ◌/◌, ◌%◌, ◌^◌, ◌<◌, min, List, length, set, refl, sym, ◌∙◌, ap}
use Rattle.std.proofs.Common.{inl, inr, arith, get_or-set_other, get_or-set_same}
use Rattle.std.proofs.lemmas.Bool.{cases_lt}
use Rattle.std.specs.Prelude.{slice_index}
use Rattle.std.proofs.Math.Nat.{mul_assoc, mul-add}
use Rattle.colour_matrix.specs.Balances.{Balancing, balanced_value}
use Rattle.colour_matrix.specs.inner.BalanceRows.{AreDigits, HasFactors, HasBalanced, factor_at}

-- a product by the digits of a factor
product : (v factor d h l : ℕ) → factor ≡ d * 2 ^ 30 + (h * 2 ^ 15 + l)
    → v * factor ≡ v * d * 2 ^ 30 + (v * h * 2 ^ 15 + v * l)
product v factor d h l is =
    ap (λ n. v * n) is ∙ simp (mul-add, mul_assoc) refl

-- a balanced sample by those products
pub balanced_is : (v gain exposure t h l : ℕ) → AreDigits (gain * exposure) t h l
    → min (v * t + (v * h + (v * l + 2 ^ 21) / 2 ^ 15) / 2 ^ 7) 65535 ≡ balanced_value gain exposure v
balanced_is v gain exposure t h l digits =
    let d = gain * exposure / 2 ^ 30 in
    let is : gain * exposure ≡ d * 2 ^ 30 + (h * 2 ^ 15 + l) = omega arith in
    let times : v * gain * exposure ≡ v * d * 2 ^ 30 + (v * h * 2 ^ 15 + v * l) = mul_assoc v gain exposure
    ∙ product v (gain * exposure) d h l is in
    let top : v * t ≡ v * d * 256 = ap (λ n. v * n) digits.top ∙ sym (mul_assoc v d 256) in
    let same : v * t + (v * h + (v * l + 2 ^ 21) / 2 ^ 15) / 2 ^ 7 ≡ (v * gain * exposure + 2 ^ 21) / 2 ^ 22 =
    omega arith in
    ap (λ n. min n 65535) same

-- one more factor of a group
pub factors_more : (s : Balancing) (tops highs lows : List ℕ) (k t h l : ℕ) → k < length tops → k < length highs
    → k < length lows → AreDigits (factor_at s k) t h l → HasFactors s tops highs lows k
    → HasFactors s (set tops k t) (set highs k h) (set lows k l) (k + 1)
factors_more s tops highs lows k t h l in_tops in_highs in_lows is before i below =
    elim (cases_lt i k) [
      | inl lower ↦
          let other : i ≢ k = omega arith in
          rw (get_or-set_other, get_or-set_other, get_or-set_other) (before i lower)
      | inr here ↦
          let same : i ≡ k = omega arith in
          rw (same, get_or-set_same, get_or-set_same, get_or-set_same) is
    ]

-- one more sample of a row
pub balanced_more : (s : Balancing) (from out : List ℕ) (k v : ℕ) → k < length out
    → v ≡ balanced_value (slice_index s.gains (k % 3)) s.exposure (slice_index from k) → HasBalanced s from out k
    → HasBalanced s from (set out k v) (k + 1)
balanced_more s from out k v room is before i below =
    elim (cases_lt i k) [
      | inl lower ↦
          let other : i ≢ k = omega arith in
          rw get_or-set_other (before i lower)
      | inr here ↦
          let same : i ≡ k = omega arith in
          rw (same, get_or-set_same) is
    ]
