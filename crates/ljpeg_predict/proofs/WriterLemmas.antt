-- Bits in stuffed bytes.
use Rattle.std.proofs.Common.{◌≡◌, ℕ, zero, suc, ◌+◌, ◌-◌, ◌*◌, ◌/◌, ◌%◌, ◌^◌, ◌<◌, ◌≤◌, Bool, true, false, eqb, List}
use Rattle.std.proofs.Common.{[], ◌∷◌, ◌++◌, length, replicate, refl, sym, ap, ap₂, ◌∙◌, arith, append_assoc}
use Rattle.std.proofs.Common.{append-nil, length-append, pow_pos, pow-suc, lit<}
use Rattle.std.proofs.Math.Nat.{mul-le-mul_right, pow-le-pow_right}
use Rattle.std.proofs.lemmas.Grind.{flat_map-append}
use Rattle.std.proofs.lemmas.Nat.{one_shl, shr_high}
use Rattle.ljpeg_huffman.proofs.DataLemmas.{bits_of-push}
use Rattle.binary_digits.specs.Digits.{bits_of, byte_bits}
use Rattle.binary_digits.proofs.DigitLemmas.{byte_bits-append, length-bits_of, length-byte_bits, bits_of-high}
use Rattle.binary_digits.proofs.DigitLemmas.{bits_of-mod, bits_of-split, bits_of-suc, bits_of-zero}
use Rattle.ljpeg_predict.specs.Encoding.{stuffed}
use Rattle.ljpeg_predict.specs.inner.Writing.{Adds, AddsLast}
use Rattle.ljpeg_predict.specs.declared.writer.Pending.{Pending}

pub stuffed-nil : stuffed [] ≡ []
unfolding stuffed
stuffed-nil = refl

pub stuffed-append : (xs ys : List ℕ) → stuffed (xs ++ ys) ≡ stuffed xs ++ stuffed ys
unfolding stuffed
stuffed-append xs ys = flat_map-append _ xs ys

pub stuffed_plain : (byte : ℕ) → eqb byte 255 ≡ false → stuffed (byte ∷ []) ≡ byte ∷ []
unfolding stuffed
stuffed_plain byte h = rw h refl

pub stuffed_marked : (byte : ℕ) → eqb byte 255 ≡ true → stuffed (byte ∷ []) ≡ 255 ∷ 0 ∷ []
unfolding stuffed
stuffed_marked byte h = rw h refl

-- bits that are all pending
pub adds_nothing : (old : List ℕ) (bits : List Bool) (word held : ℕ) → bits_of held word ≡ bits
    → Adds old old bits (record { word = word; held = held })
adds_nothing old bits word held e = record {
  stretch = [];
  is = sym (ap (λ x. old ++ x) stuffed-nil ∙ append-nil old);
  digits = e;
}

-- whole bytes leave nothing
pub none_left : (old new : List ℕ) (bits : List Bool) (left : Pending) → Adds old new bits left → left.held < 8
    → length bits ≡ 8 → left.held ≡ 0
none_left old new bits left a few size =
    let total = ap length a.digits in
    let parts = length-append (byte_bits a.stretch) (bits_of left.held left.word) in
    let bytes : length (byte_bits a.stretch) ≡ 8 * length a.stretch = length-byte_bits a.stretch in
    let rest : length (bits_of left.held left.word) ≡ left.held = length-bits_of left.held left.word in
    omega (arith, total, parts, bytes, rest)

-- the last byte is filled with ones
pub adds_last : (old new : List ℕ) (bits : List Bool) (ones : ℕ) (left : Pending) → ones < 8 → left.held ≡ 0
    → Adds old new (bits ++ replicate ones true) left → AddsLast old new bits
adds_last old new bits ones left few none a = record {
  stretch = a.stretch;
  is = a.is;
  ones = ones;
  few = few;
  digits = sym (append-nil (byte_bits a.stretch))
      ∙ ap (λ x. byte_bits a.stretch ++ x) (sym (ap (λ n. bits_of n left.word) none ∙ bits_of-zero left.word))
      ∙ a.digits;
}

pub all_ones : (size : ℕ) → bits_of size (2 ^ size - 1) ≡ replicate size true
all_ones zero = bits_of-zero (2 ^ 0 - 1)
all_ones (suc size) =
    let some : 0 < 2 ^ size = pow_pos size in
    let two : 2 ^ suc size ≡ 2 * 2 ^ size = omega (arith, pow-suc 2 size) in
    let high : 2 ^ suc size - 1 ≡ 1 * 2 ^ size + (2 ^ size - 1) = omega (arith, some, two) in
    let top : (1 * 2 ^ size + (2 ^ size - 1)) / 2 ^ size ≡ 1 = shr_high 1 size (2 ^ size - 1) (omega (arith, some)) in
    let low : bits_of size (1 * 2 ^ size + (2 ^ size - 1)) ≡ bits_of size (2 ^ size - 1) =
    bits_of-high size 1 (2 ^ size - 1) (omega (arith, some)) in
    ap (bits_of (suc size)) high ∙ bits_of-suc size (1 * 2 ^ size + (2 ^ size - 1))
    ∙ ap₂ (λ n rest. eqb (n % 2) 1 ∷ rest) top (low ∙ all_ones size)

-- one more byte
pub adds_byte : (old middle new : List ℕ) (bits : List Bool) (word before held byte : ℕ) → before ≡ held + 8
    → Adds old middle bits (record { word = word; held = before }) → byte ≡ word / 2 ^ held % 256
    → new ≡ middle ++ stuffed (byte ∷ []) → Adds old new bits (record { word = word; held = held })
adds_byte old middle new bits word before held byte more a is written =
    let swap : before ≡ 8 + held = omega arith in
    let top : bits_of 8 byte ≡ bits_of 8 (word / 2 ^ held) = ap (bits_of 8) is ∙ bits_of-mod 8 0 (word / 2 ^ held) in
    let split : bits_of before word ≡ bits_of 8 byte ++ bits_of held word =
    ap (λ n. bits_of n word) swap ∙ bits_of-split 8 held word ∙ ap (λ x. x ++ bits_of held word) (sym top) in
    record {
      stretch = a.stretch ++ byte ∷ [];
      is = written ∙ ap (λ x. x ++ stuffed (byte ∷ [])) a.is
          ∙ append_assoc old (stuffed a.stretch) (stuffed (byte ∷ []))
          ∙ ap (λ x. old ++ x) (sym (stuffed-append a.stretch (byte ∷ [])));
      digits = ap (λ x. x ++ bits_of held word)
          (byte_bits-append a.stretch (byte ∷ []) ∙ ap (λ x. byte_bits a.stretch ++ x) (append-nil (bits_of 8 byte)))
          ∙ append_assoc (byte_bits a.stretch) (bits_of 8 byte) (bits_of held word)
          ∙ ap (λ x. byte_bits a.stretch ++ x) (sym split) ∙ a.digits;
    }

-- bits behind pending ones
pub joined : (held word size number : ℕ) → held < 8 → size ≤ 24 → number < 2 ^ size
    → bits_of (held + size) (word % 256 * (1 * 2 ^ size % 2 ^ 32) + number) ≡ bits_of held word ++ bits_of size number
joined held word size number h s small =
    let whole : held + (8 - held) ≡ 8 = omega arith in
    let shift : 1 * 2 ^ size % 2 ^ 32 ≡ 2 ^ size = one_shl size 32 (omega arith) in
    ap (λ n. bits_of (held + size) (word % 256 * n + number)) shift
    ∙ ap (λ n. bits_of (held + size) (word % 2 ^ n * 2 ^ size + number)) (sym whole)
    ∙ bits_of-push held size (8 - held) word number small

pub joined_fits : (word size number : ℕ) → size ≤ 24 → number < 2 ^ size
    → word % 256 * (1 * 2 ^ size % 2 ^ 32) + number < 2 ^ 32
joined_fits word size number s small =
    let shift : 1 * 2 ^ size % 2 ^ 32 ≡ 2 ^ size = one_shl size 32 (omega arith) in
    let most : 2 ^ size ≤ 2 ^ 24 = pow-le-pow_right (lit< tt) s in
    let product : (word % 256) * 2 ^ size ≤ 255 * 2 ^ size = mul-le-mul_right (2 ^ size) (omega arith) in
    rw shift (omega (arith, most, product))

-- nothing is left to write
pub adds_none : (old : List ℕ) (word held : ℕ) → held ≡ 0 → AddsLast old old (bits_of held word)
adds_none old word held none = record {
  stretch = [];
  is = sym (ap (λ x. old ++ x) stuffed-nil ∙ append-nil old);
  ones = 0;
  few = omega arith;
  digits = sym (append-nil (bits_of held word) ∙ ap (λ n. bits_of n word) none ∙ bits_of-zero word);
}

-- ones as the code makes them
pub shifted_ones : (size : ℕ) → size < 32 → bits_of size (1 * 2 ^ size % 2 ^ 32 - 1) ≡ replicate size true
shifted_ones size h = ap (λ n. bits_of size (n - 1)) (one_shl size 32 h) ∙ all_ones size
