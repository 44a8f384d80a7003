-- Binary digits and the numbers that they spell.
use Rattle.std.proofs.Common.{◌≡◌, ℕ, zero, suc, ◌+◌, ◌*◌, ◌/◌, ◌%◌, ◌^◌, ◌<◌, ◌≤◌, Bool, true, false, cond, eqb, List}
use Rattle.std.proofs.Common.{[], ◌∷◌, ◌++◌, length, refl, sym, ap, ◌∙◌, arith, pow-suc, length-append, suc-add}
use Rattle.std.proofs.Common.{zero-add, add_comm, one-add}
use Rattle.std.proofs.lemmas.List.Concat.{flat_map-append}
use Rattle.std.proofs.lemmas.Nat.{pow-add, shr-shr, mod-pow-add, field_of, div-mul-add, mod-mul-add}
use Rattle.std.proofs.Math.Nat.{mod-eq_of_lt}
use Rattle.binary_digits.specs.Digits.{bits_of, byte_bits, number_of}

-- one step of each definition
pub bits_of-suc : (size number : ℕ) → bits_of (suc size) number ≡ eqb (number / 2 ^ size % 2) 1 ∷ bits_of size number
unfolding bits_of
bits_of-suc size number = refl

pub bits_of-zero : (number : ℕ) → bits_of 0 number ≡ []
unfolding bits_of
bits_of-zero number = refl

pub number_of-cons : (bit : Bool) (digits : List Bool) → number_of (bit ∷ digits)
    ≡ cond bit (2 ^ length digits) 0 + number_of digits
unfolding number_of
number_of-cons bit digits = refl

pub number_of-nil : number_of [] ≡ 0
unfolding number_of
number_of-nil = refl

pub length-bits_of : (size number : ℕ) → length (bits_of size number) ≡ size
length-bits_of zero number = rw bits_of-zero
length-bits_of (suc size) number = rw bits_of-suc (ap suc (length-bits_of size number))

-- one bit as a number
bit_is : (n a : ℕ) → n < 2 → cond (eqb n 1) a 0 ≡ n * a
bit_is zero a h = omega arith
bit_is (suc zero) a h = omega arith
bit_is (suc (suc n)) a h = absurd (omega arith)

pub number_of-bits_of : (size number : ℕ) → number_of (bits_of size number) ≡ number % 2 ^ size
number_of-bits_of zero number = rw (bits_of-zero, number_of-nil) (omega arith)
number_of-bits_of (suc size) number =
    let low = number_of-bits_of size number in
    let split : number % 2 ^ suc size ≡ (number / 2 ^ size % 2) * 2 ^ size + number % 2 ^ size =
    ap (λ k. number % 2 ^ k) (sym (one-add size)) ∙ mod-pow-add number 1 size in
    let bit = bit_is (number / 2 ^ size % 2) (2 ^ size) (omega arith) in
    rw (bits_of-suc, number_of-cons, length-bits_of, low, bit) (omega (arith, split))

pub number_of-append : (a b : List Bool) → number_of (a ++ b) ≡ number_of a * 2 ^ length b + number_of b
number_of-append [] b = rw number_of-nil (omega arith)
number_of-append (true ∷ a) b =
    rw (number_of-cons true (a ++ b), number_of-cons true a, length-append, number_of-append a b, pow-add) (omega arith)
number_of-append (false ∷ a) b =
    rw (number_of-cons false (a ++ b), number_of-cons false a, number_of-append a b) (omega arith)

pub number_of-lt : (a : List Bool) → number_of a < 2 ^ length a
number_of-lt [] = rw number_of-nil (omega arith)
number_of-lt (true ∷ a) = rw (number_of-cons true a, pow-suc) (omega (arith, number_of-lt a))
number_of-lt (false ∷ a) = rw (number_of-cons false a, pow-suc) (omega (arith, number_of-lt a))

-- the upper digits stand before the lower ones
pub bits_of-split : (upper lower number : ℕ) → bits_of (upper + lower) number
    ≡ bits_of upper (number / 2 ^ lower) ++ bits_of lower number
bits_of-split zero lower number = rw (zero-add, bits_of-zero) refl
bits_of-split (suc upper) lower number =
    let e : number / 2 ^ lower / 2 ^ upper ≡ number / 2 ^ (upper + lower) =
    shr-shr number lower upper ∙ ap (λ n. number / 2 ^ n) (add_comm lower upper) in
    rw (
      suc-add,
      bits_of-suc (upper + lower) number,
      bits_of-suc upper (number / 2 ^ lower),
      e,
      bits_of-split upper lower number,
    ) refl

-- the digits do not see what stands above them in the number
pub bits_of-mod : (size above number : ℕ) → bits_of size (number % 2 ^ (size + above)) ≡ bits_of size number
bits_of-mod zero above number = rw (bits_of-zero number) (bits_of-zero _)
bits_of-mod (suc size) above number =
    let m = number / 2 ^ size in
    let top : suc size + above ≡ (above + 1) + size = omega arith in
    let high : number % 2 ^ (suc size + above) / 2 ^ size ≡ m % 2 ^ (above + 1) =
    ap (λ k. number % 2 ^ k / 2 ^ size) top ∙ field_of number (above + 1) size in
    let low : m % 2 ^ (above + 1) ≡ (m / 2 % 2 ^ above) * 2 + m % 2 = mod-pow-add m above 1 in
    let bit : m % 2 ^ (above + 1) % 2 ≡ m % 2 = omega (arith, low) in
    let next : suc size + above ≡ size + suc above = omega arith in
    let rest : bits_of size (number % 2 ^ (suc size + above)) ≡ bits_of size number =
    ap (λ k. bits_of size (number % 2 ^ k)) next ∙ bits_of-mod size (suc above) number in
    rw (bits_of-suc size number, bits_of-suc size (number % 2 ^ (suc size + above)), high, bit, rest) refl

-- the digits are those of the number below 2 ^ size
pub bits_of-low : (size number : ℕ) → bits_of size (number % 2 ^ size) ≡ bits_of size number
bits_of-low size number = ap (λ k. bits_of size (number % 2 ^ k)) (omega arith) ∙ bits_of-mod size 0 number

-- two prefixes of the same bits that are of one length are the same
pub append_same_size : (a b x y : List Bool) → a ++ x ≡ b ++ y → length a ≡ length b → (a ≡ b) × (x ≡ y)
append_same_size [] [] x y e h = (refl, e)
append_same_size [] (c ∷ b) x y e h = absurd (omega arith)
append_same_size (c ∷ a) [] x y e h = absurd (omega arith)
append_same_size (c ∷ a) (d ∷ b) x y e h =
    let tails : a ++ x ≡ b ++ y = cc in
    let heads : c ≡ d = cc in
    let r = append_same_size a b x y tails (omega arith) in
    let first : a ≡ b = r.0 in
    (cc, r.1)

-- of two prefixes of the same bits the shorter one is a prefix of the longer one
pub append_shorter : (a b x y : List Bool) → a ++ x ≡ b ++ y → length a ≤ length b
    → (rest : List Bool) × (b ≡ a ++ rest)
append_shorter [] b x y e h = (b, refl)
append_shorter (c ∷ a) [] x y e h = absurd (omega arith)
append_shorter (c ∷ a) (d ∷ b) x y e h =
    let tails : a ++ x ≡ b ++ y = cc in
    let heads : c ≡ d = cc in
    let r = append_shorter a b x y tails (omega arith) in
    let more : b ≡ a ++ r.0 = r.1 in
    (r.0, cc)

-- what is added above the digits does not matter
pub bits_of-high : (size above low : ℕ) → low < 2 ^ size → bits_of size (above * 2 ^ size + low) ≡ bits_of size low
bits_of-high size above low h =
    let same : (above * 2 ^ size + low) % 2 ^ size ≡ low = mod-mul-add above (2 ^ size) low h in
    sym (bits_of-low size (above * 2 ^ size + low)) ∙ ap (bits_of size) same

-- digits put below other digits
pub bits_of-join : (upper lower high low : ℕ) → low < 2 ^ lower
    → bits_of (upper + lower) (high * 2 ^ lower + low) ≡ bits_of upper high ++ bits_of lower low
bits_of-join upper lower high low h =
    rw (bits_of-split, div-mul-add high (2 ^ lower) low h, bits_of-high lower high low h) refl

-- numbers of so many digits that have the same digits are one
pub same_number : (size m n : ℕ) → m < 2 ^ size → n < 2 ^ size → bits_of size m ≡ bits_of size n → m ≡ n
same_number size m n hm hn e =
    sym (number_of-bits_of size m ∙ mod-eq_of_lt hm) ∙ ap number_of e ∙ number_of-bits_of size n ∙ mod-eq_of_lt hn

one_digit_more : (bit : Bool) (digit : ℕ) (digits : List Bool) → digit < 2 → eqb digit 1 ≡ bit
    → number_of (bit ∷ digits) ≡ digit * 2 ^ length digits + number_of digits
    → bits_of (length digits) (number_of digits) ≡ digits
    → bits_of (suc (length digits)) (number_of (bit ∷ digits)) ≡ bit ∷ digits
one_digit_more bit digit digits small is e rest =
    let number = digit * 2 ^ length digits + number_of digits in
    let low = number_of-lt digits in
    let high : number / 2 ^ length digits ≡ digit = div-mul-add digit (2 ^ length digits) (number_of digits) low in
    let top : number / 2 ^ length digits % 2 ≡ digit = rw high (omega arith) in
    let lower : bits_of (length digits) number ≡ digits =
    bits_of-high (length digits) digit (number_of digits) low ∙ rest in
    ap (bits_of (suc (length digits))) e ∙ bits_of-suc (length digits) number ∙ rw (top, is, lower) refl

-- digits are those of the number that they spell
pub bits_of-number_of : (digits : List Bool) → bits_of (length digits) (number_of digits) ≡ digits
bits_of-number_of [] = bits_of-zero _
bits_of-number_of (true ∷ digits) =
    one_digit_more true 1 digits (omega arith) refl (number_of-cons true digits ∙ omega arith)
    (bits_of-number_of digits)
bits_of-number_of (false ∷ digits) =
    one_digit_more false 0 digits (omega arith) refl (number_of-cons false digits ∙ omega arith)
    (bits_of-number_of digits)

-- eight digits of each byte
pub length-byte_bits : (bytes : List ℕ) → length (byte_bits bytes) ≡ 8 * length bytes
length-byte_bits [] = refl
length-byte_bits (byte ∷ bytes) =
    let whole = length-append (bits_of 8 byte) (byte_bits bytes) in
    let rest = length-byte_bits bytes in
    omega (arith, length-bits_of 8 byte)

-- the digits of bytes behind bytes
pub byte_bits-append : (bytes more : List ℕ) → byte_bits (bytes ++ more) ≡ byte_bits bytes ++ byte_bits more
byte_bits-append bytes more = flat_map-append (bits_of 8) bytes more
