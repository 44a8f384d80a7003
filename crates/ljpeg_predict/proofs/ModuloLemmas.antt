-- Numbers modulo 2^16.
use Rattle.std.proofs.Common.{◌≡◌, ℕ, suc, ◌+◌, ◌*◌, ◌%◌, ◌<◌, ℤ, pos, negsuc, ◌+ℤ◌, ◌-ℤ◌, ◌-◌, refl, sym, ap, ap₂, ◌∙◌}
use Rattle.std.proofs.Common.{arith, lit<, unsigned_abs}
use Rattle.std.proofs.lemmas.Int.{ints, int_rem_euclid_is}
use Rattle.ljpeg_huffman.specs.Differences.{modulo}

-- a number is a natural one less a multiple of 2^16
record Natural (z : ℤ) : Type 0 where
  k : ℕ
  m : ℕ
  is : z +ℤ pos (k * 65536) ≡ pos m

natural : (z : ℤ) → Natural z
natural (pos n) = record { k = 0; m = n; is = omega (arith, ints) }
natural (negsuc n) = record { k = suc n; m = n * 65535 + 65535; is = omega (arith, ints) }

pub modulo_is : (z : ℤ) (k m : ℕ) → z +ℤ pos (k * 65536) ≡ pos m → modulo z ≡ m % 65536
modulo_is z k m e = ap unsigned_abs (int_rem_euclid_is z (pos 65536) 65536 k m (lit< tt) refl e)

pub modulo-add : (z : ℤ) (n : ℕ) → (modulo z + n) % 65536 ≡ modulo (z +ℤ pos n)
modulo-add z n =
    let t = natural z in
    let e : z +ℤ pos (t.k * 65536) ≡ pos t.m = t.is in
    let whole : (z +ℤ pos n) +ℤ pos (t.k * 65536) ≡ pos (t.m + n) = omega (arith, ints) in
    let parts : (t.m % 65536 + n) % 65536 ≡ (t.m + n) % 65536 = omega arith in
    ap (λ x. (x + n) % 65536) (modulo_is z t.k t.m e) ∙ parts ∙ sym (modulo_is (z +ℤ pos n) t.k (t.m + n) whole)

-- what is added may be taken modulo 2^16
pub modulo-add-modulo : (z d : ℤ) → modulo (z +ℤ pos (modulo d)) ≡ modulo (z +ℤ d)
modulo-add-modulo z d =
    let t = natural z in
    let u = natural d in
    let e : z +ℤ pos (t.k * 65536) ≡ pos t.m = t.is in
    let f : d +ℤ pos (u.k * 65536) ≡ pos u.m = u.is in
    let whole : (z +ℤ d) +ℤ pos ((t.k + u.k) * 65536) ≡ pos (t.m + u.m) = omega (arith, ints) in
    let parts : (t.m % 65536 + u.m % 65536) % 65536 ≡ (t.m + u.m) % 65536 = omega arith in
    sym (modulo-add z (modulo d)) ∙ ap₂ (λ x y. (x + y) % 65536) (modulo_is z t.k t.m e) (modulo_is d u.k u.m f) ∙ parts
    ∙ sym (modulo_is (z +ℤ d) (t.k + u.k) (t.m + u.m) whole)

pub modulo_below : (z : ℤ) → modulo z < 65536
modulo_below z =
    let t = natural z in
    let e = modulo_is z t.k t.m t.is in
    omega (arith, e)

-- a difference modulo 2^16
pub modulo-sub : (n : ℕ) (z : ℤ) → (n + (65536 - modulo z)) % 65536 ≡ modulo (pos n -ℤ z)
modulo-sub n z =
    let t = natural z in
    let e : z +ℤ pos (t.k * 65536) ≡ pos t.m = t.is in
    let whole : (pos n -ℤ z) +ℤ pos (t.m * 65536) ≡ pos (n + t.m * 65535 + t.k * 65536) = omega (arith, ints) in
    let parts : (n + (65536 - t.m % 65536)) % 65536 ≡ (n + t.m * 65535 + t.k * 65536) % 65536 = omega arith in
    ap (λ x. (n + (65536 - x)) % 65536) (modulo_is z t.k t.m e) ∙ parts
    ∙ sym (modulo_is (pos n -ℤ z) t.m (n + t.m * 65535 + t.k * 65536) whole)
