-- Multiples of a pitch, and the numbers between them.
use Rattle.std.proofs.Common.{◌≡◌, ℕ, ◌+◌, ◌-◌, ◌*◌, ◌/◌, ◌%◌, ◌<◌, ◌≤◌, ◌∙◌, ap, arith}
use Rattle.std.proofs.lemmas.Nat.{div-add-mod', mod-mul-add, mod_below}
use Rattle.std.proofs.Math.Nat.{mul-add-mod_self_right}
use Rattle.opcode_stages.specs.inner.MapRows.{IsFirstFrom}

-- short of the next multiple
pub short_mod : (a j m : ℕ) → a % m + j < m → (a + j) % m ≡ a % m + j
short_mod a j m short =
    let whole : a / m * m + a % m ≡ a = div-add-mod' a m in
    let same : a + j ≡ a / m * m + (a % m + j) = omega (arith, whole) in
    ap (λ n. n % m) same ∙ mod-mul-add (a / m) m (a % m + j) short

-- up to the next multiple
pub next_mod : (a j m : ℕ) → 0 < m → a % m + j ≡ m → (a + j) % m ≡ 0
next_mod a j m some full =
    let whole : a / m * m + a % m ≡ a = div-add-mod' a m in
    let same : a + j ≡ (a / m + 1) * m + 0 = omega (arith, whole) in
    ap (λ n. n % m) same ∙ mod-mul-add (a / m + 1) m 0 some

-- past a multiple
pub past_mod : (a b m : ℕ) → a % m ≡ 0 → (a + b) % m ≡ b % m
past_mod a b m multiple =
    let whole : a / m * m + a % m ≡ a = div-add-mod' a m in
    let same : a + b ≡ a / m * m + b = omega (arith, whole, multiple) in
    ap (λ n. n % m) same ∙ mul-add-mod_self_right (a / m) m b

-- the next one after the bound
pub first_past : (start pitch low past : ℕ) → start ≤ low → 0 < pitch → past ≡ (low - start) % pitch → 0 < past
    → IsFirstFrom start pitch low (low + (pitch - past))
first_past start pitch low past above some is_past not_at =
    let below : (low - start) % pitch < pitch = mod_below (low - start) pitch some in
    record {
      not_before = omega arith;
      not_below = omega arith;
      stepped = (let same : low + (pitch - past) - start ≡ (low - start) + (pitch - past) = omega arith in
          ap (λ n. n % pitch) same ∙ next_mod (low - start) (pitch - past) pitch some (omega (arith, below, is_past)));
      least = λ k from at under step.
          let same : k - start ≡ (low - start) + (k - low) = omega arith in
          let rest : (k - start) % pitch ≡ (low - start) % pitch + (k - low) = ap (λ n. n % pitch) same
          ∙ short_mod (low - start) (k - low) pitch (omega (arith, below, is_past)) in
          absurd (omega (arith, rest, step, is_past));
    }

-- every number is a multiple of 1
pub one_mod : (n : ℕ) → n % 1 ≡ 0
one_mod n = let below : n % 1 < 1 = mod_below n 1 (omega arith) in omega arith
