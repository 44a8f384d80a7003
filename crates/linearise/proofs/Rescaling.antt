-- Multiplying and shifting give the quotient.
use Rattle.std.proofs.Common.{◌≡◌, ℕ, ◌+◌, ◌-◌, ◌*◌, ◌/◌, ◌%◌, ◌^◌, ◌<◌, ◌≤◌, inl, inr, refl, subst, sym, ◌∙◌, ap}
use Rattle.std.proofs.Common.{arith, min, ℤ, pos, negsuc}
use Rattle.std.specs.Prelude.{◌+ℤ◌, ◌*ℤ◌, ◌<ℤ◌}
use Rattle.std.specs.Int.{int_div_euclid}
use Rattle.std.proofs.Math.Nat.{mul-le-mul_left, mul-add-div_right}
use Rattle.std.proofs.lemmas.Bool.{cases_lt}
use Rattle.std.proofs.lemmas.Int.{ints}
use Rattle.std.proofs.lemmas.Nat.{div-add-mod', div-mul-add, div_below, le-div, mod_below, mul-le, pow-add, shr-shr}
use Rattle.std.proofs.lemmas.Nat.{shr_split}
use Rattle.linearise.specs.Linear.{rescaled}
use Rattle.plane_view.specs.Samples.{clipped, held_within}
use Rattle.linearise.specs.inner.Scales.{IsFactor, IsScale, part_of}

-- a common factor of two sides goes away
cancel : (k a b : ℕ) → 1 ≤ k → k * a < k * b + k → a ≤ b
cancel k a b some h =
    elim (cases_lt b a) [
      | inl above ↦
          let more : k * (b + 1) ≤ k * a = mul-le-mul_left k (omega arith) in
          absurd (omega arith)
      | inr at_most ↦ at_most
    ]

-- the quotient by twice the half is that by twice the span
pub quotient_is : (span half factor x : ℕ) → 1 ≤ span → span * span < half → IsFactor span half factor → x ≤ span
    → (x * factor + half) / (2 * half) ≡ (131070 * x + span) / (2 * span)
quotient_is span half factor x some wide is within =
    let n : ℕ = 131070 * x + span in
    let q : ℕ = n / (2 * span) in
    let r : ℕ = n % (2 * span) in
    let e : ℕ = factor * span - 65535 * (2 * half) in
    let split : q * (2 * span) + r ≡ n = div-add-mod' n (2 * span) in
    let rest : r < 2 * span = mod_below n (2 * span) (omega arith) in
    let over : factor * span ≡ 65535 * (2 * half) + e = omega (arith, is.low) in
    let small : e ≤ span = omega (arith, is.high) in
    let by_x : x * (factor * span) ≡ x * (65535 * (2 * half) + e) = ap (λ m. x * m) over in
    let by_half : (q * (2 * span) + r) * half ≡ n * half = ap (λ m. m * half) split in
    let product : x * e ≤ span * span = mul-le x e span span within small in
    let room : (r + 1) * half ≤ 2 * span * half = mul-le (r + 1) half (2 * span) half (omega arith) (omega arith) in
    let low : q * (2 * half) ≤ x * factor + half = cancel (2 * span) (q * (2 * half)) (x * factor + half) (omega arith)
    (omega arith) in
    let high : x * factor + half + 1 ≤ q * (2 * half) + 2 * half =
    cancel (2 * span) (x * factor + half + 1) (q * (2 * half) + 2 * half) (omega arith) (omega arith) in
    let left : ℕ = x * factor + half - q * (2 * half) in
    let whole : x * factor + half ≡ q * (2 * half) + left = omega arith in
    ap (λ m. m / (2 * half)) whole ∙ div-mul-add q (2 * half) left (omega arith)

-- the two halves of a factor
pub halves : (factor : ℕ) → factor / 2 ^ 32 * 2 ^ 32 + factor % 2 ^ 32 ≡ factor
halves factor = shr_split factor 32

-- multiplying by the halves of a factor one after the other
pub by_halves : (x high low half shift : ℕ) → half ≡ 2 ^ (shift + 31)
    → (x * high + (x * low + half) / 2 ^ 32) / 2 ^ shift ≡ (x * (high * 2 ^ 32 + low) + half) / (2 * half)
by_halves x high low half shift is =
    let joined : (x * high * 2 ^ 32 + (x * low + half)) / 2 ^ 32 ≡ x * high + (x * low + half) / 2 ^ 32 =
    mul-add-div_right (omega arith) (x * high) (x * low + half) in
    let sum : x * high * 2 ^ 32 + (x * low + half) ≡ x * (high * 2 ^ 32 + low) + half = omega arith in
    let twice : 2 ^ (32 + shift) ≡ 2 * half =
    ap (λ m. 2 ^ m) (omega arith) ∙ pow-add 2 (shift + 31) 1 ∙ (omega (arith, is)) in
    ap (λ m. m / 2 ^ shift) (sym joined)
    ∙ shr-shr (x * high * 2 ^ 32 + (x * low + half)) 32 shift
    ∙ ap (λ m. (x * high * 2 ^ 32 + (x * low + half)) / m) twice
    ∙ ap (λ m. m / (2 * half)) sum

-- what multiplying gives
pub part_is : (span high low half shift x : ℕ) → IsScale span high low half shift → x ≤ span
    → (x * high + (x * low + half) / 2 ^ 32) / 2 ^ shift ≡ part_of span x
part_is span high low half shift x is within =
    by_halves x high low half shift is.half_is ∙ quotient_is span half (high * 2 ^ 32 + low) x is.some is.wide is.factor
    within

-- the half of a short shift
half_of_short : (half shift : ℕ) → half ≡ 2 ^ (shift + 31) → shift ≡ 16 → half ≡ 2 ^ 47
half_of_short half shift is short = is ∙ ap (λ n. 2 ^ (n + 31)) short

-- what one product gives
pub short_is : (span high low half shift x : ℕ) → IsScale span high low half shift → shift ≡ 16 → x ≤ span
    → (x * (high * 2 ^ 32 + low) + 2 ^ 47) / 2 ^ 48 ≡ part_of span x
short_is span high low half shift x is short within =
    let now : half ≡ 2 ^ 47 = half_of_short half shift is.half_is short in
    let factor = subst (λ (h : ℕ). IsFactor span h (high * 2 ^ 32 + low)) now is.factor in
    quotient_is span (2 ^ 47) (high * 2 ^ 32 + low) x is.some (omega (arith, is.wide, now)) factor within

-- a part is one of 65535
pub part_small : (span x : ℕ) → 1 ≤ span → x ≤ span → part_of span x ≤ 65535
part_small span x some within =
    let below : part_of span x < 65536 = div_below (131070 * x + span) (2 * span) 65536 (omega arith) (omega arith) in
    omega arith

-- the quotient of a number below the divisor, held within 0 and 65535, is 0
clips_low : (t : ℤ) (d : ℕ) → 1 ≤ d → t <ℤ pos d → clipped (int_div_euclid t (pos d)) ≡ 0
clips_low (pos a) d some below =
    let lt : a < d = omega (arith, ints) in
    let zero_is : a / d ≡ 0 = ap (λ m. m / d) (omega arith) ∙ div-mul-add 0 d a lt in
    rw zero_is refl
clips_low (negsuc n) d some below = refl

-- the part of a level that is held within 0 and the span
pub rescaled_is : (span : ℕ) (above : ℤ) → 1 ≤ span → rescaled (pos span) above ≡ part_of span (held_within span above)
unfolding rescaled
rescaled_is span (pos x) some =
    elim (cases_lt span x) [
      | inl above ↦
          let top : part_of span span ≡ 65535 = ap (λ m. m / (2 * span)) (omega arith)
          ∙ div-mul-add 65535 (2 * span) span (omega arith) in
          let big : 65535 ≤ part_of span x = le-div 65535 (131070 * x + span) (2 * span) (omega arith) (omega arith) in
          let held : min x span ≡ span = omega arith in
          rw held (rw top (omega arith))
      | inr within ↦
          let small = part_small span x some within in
          let held : min x span ≡ x = omega arith in
          rw held (omega arith)
    ]
rescaled_is span (negsuc n) some =
    let zero_is : part_of span 0 ≡ 0 = ap (λ m. m / (2 * span)) (omega arith)
    ∙ div-mul-add 0 (2 * span) span (omega arith) in
    clips_low (pos 131070 *ℤ negsuc n +ℤ pos span) (2 * span) (omega arith) (omega (arith, ints)) ∙ sym zero_is
