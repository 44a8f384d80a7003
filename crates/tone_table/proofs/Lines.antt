-- Lines between points.
use Rattle.std.proofs.Common.{◌≡◌, ℕ, zero, suc, ◌+◌, ◌-◌, ◌*◌, ◌/◌, ◌<◌, ◌≤◌, ℤ, pos, negsuc, ◌+ℤ◌, ◌-ℤ◌, ◌*ℤ◌, neg_ℤ}
use Rattle.std.proofs.Common.{sym, ◌∙◌, ap, arith}
use Rattle.std.specs.Int.{int_div_euclid}
use Rattle.std.proofs.lemmas.Int.{ints}
use Rattle.std.proofs.lemmas.Nat.{mul-le, div_below}
use Rattle.std.proofs.Math.Nat.{mul_comm, zero-div, add-mul-div_right}
use Rattle.std.proofs.Math.IntN.{pos-*ℤ-negsuc}
use Rattle.tone_table.specs.Tones.{natural, line_at}

-- a difference of natural numbers
natural_sub : (y q : ℕ) → q + 1 ≤ y → y - (q + 1) ≡ natural (pos y +ℤ negsuc q)
natural_sub y q within = let is : pos (y - (q + 1)) ≡ pos y +ℤ negsuc q = omega (arith, ints) in ap natural is

-- a quotient of a negative number
fall : (y d n : ℕ) → 0 < d → (n + d - 1) / d ≤ y
    → y - (n + d - 1) / d ≡ natural (pos y +ℤ int_div_euclid (neg_ℤ (pos n)) (pos d))
fall y d zero some within =
    let none : (0 + d - 1) / d < 1 = div_below (0 + d - 1) d 1 some (omega arith) in
    let same : y - (0 + d - 1) / d ≡ y + 0 / d = rw (zero-div d) (omega arith) in
    same
fall y d (suc m) some within =
    let sum : suc m + d - 1 ≡ m + 1 * d = omega arith in
    let up : (suc m + d - 1) / d ≡ m / d + 1 = ap (λ n. n / d) sum ∙ add-mul-div_right m 1 some in
    ap (λ n. y - n) up ∙ natural_sub y (m / d) (omega arith)

-- how far a line falls
pub fall_within : (a d rise : ℕ) → a ≤ d → 0 < d → (a * rise + d - 1) / d ≤ rise
fall_within a d rise part some =
    let most : a * rise ≤ d * rise = mul-le a rise d rise part (omega arith) in
    let turned : d * rise ≡ rise * d = mul_comm d rise in
    let next : (rise + 1) * d ≡ rise * d + d = omega arith in
    let below : (a * rise + d - 1) / d < rise + 1 = div_below (a * rise + d - 1) d (rise + 1) some (omega arith) in
    omega arith

-- down from a point
pub line_down : (x0 y0 x1 y1 x : ℕ) → x0 ≤ x → x < x1 → y1 < y0
    → y0 - ((x - x0) * (y0 - y1) + (x1 - x0) - 1) / (x1 - x0) ≡ line_at (x0, y0) (x1, y1) x
line_down x0 y0 x1 y1 x left right down =
    let a : ℕ = x - x0 in
    let d : ℕ = x1 - x0 in
    let k : ℕ = y0 - y1 - 1 in
    let is_k : y0 - y1 ≡ suc k = omega arith in
    let along : pos (x - x0) ≡ pos x -ℤ pos x0 = omega (arith, ints) in
    let drop : negsuc k ≡ pos y1 -ℤ pos y0 = omega (arith, ints) in
    let over : pos (x1 - x0) ≡ pos x1 -ℤ pos x0 = omega (arith, ints) in
    let most = fall_within a d (suc k) (omega arith) (omega arith) in
    ap (λ n. y0 - (a * n + d - 1) / d) is_k
    ∙ fall y0 d (a * suc k) (omega arith) (omega arith)
    ∙ ap (λ (z : ℤ). natural (pos y0 +ℤ int_div_euclid z (pos d))) (sym (pos-*ℤ-negsuc a k))
    ∙ (λ i. natural (pos y0 +ℤ int_div_euclid (along i *ℤ drop i) (over i)))
