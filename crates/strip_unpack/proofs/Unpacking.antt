-- Samples taken one by one from a register that bytes go into, most significant digit first.
use Rattle.std.proofs.Common.{◌≡◌, ℕ, ◌+◌, ◌-◌, ◌*◌, ◌/◌, ◌%◌, ◌^◌, ◌<◌, ◌≤◌, Bool, List, [], ◌∷◌, ◌++◌, All, length}
use Rattle.std.proofs.Common.{get_or, set, take, inl, inr, refl, sym, subst, ap, ◌∙◌, arith, append_assoc}
use Rattle.std.specs.List.{flat_map}
use Rattle.std.specs.Int.RustNames.{bit_and, bit_or}
use Rattle.std.proofs.lemmas.Bool.{cases_lt, cases_order}
use Rattle.std.proofs.lemmas.List.{append-nil, take_more, take_more_set}
use Rattle.std.proofs.lemmas.List.Concat.{flat_map-append}
use Rattle.std.proofs.lemmas.List.Elements.{All-append, All-nil, All-push}
use Rattle.std.proofs.lemmas.Nat.{and_mask, field_of, mod-mul-add, mod-pow-add, one_shl, pow-add, pow_pos, mod_below}
use Rattle.std.proofs.lemmas.Nat.{shr_below, or_shifted}
use Rattle.std.proofs.Math.Nat.{mod-eq_of_lt, mul-le-mul_right, pow-le-pow_right}
use Rattle.binary_digits.specs.Digits.{bits_of, byte_bits}
use Rattle.strip_unpack.specs.Samples.{Spells}
use Rattle.binary_digits.proofs.DigitLemmas.{bits_of-split, bits_of-join, bits_of-low, length-bits_of}

-- the bytes so far spell the samples so far and the register's lowest `count` digits
pub record Unpacked (depth count register : ℕ) (samples bytes : List ℕ) : Type 0 where
  pub fits : All (λ x. x < 2 ^ depth) samples
  pub below : register < 2 ^ count
  pub spelled : byte_bits bytes ≡ flat_map (bits_of depth) samples ++ bits_of count register

-- one piece more
flat_map-push : (f : ℕ → List Bool) (xs : List ℕ) (x : ℕ) → flat_map f (xs ++ x ∷ []) ≡ flat_map f xs ++ f x
flat_map-push f xs x = flat_map-append f xs (x ∷ []) ∙ ap (λ ys. flat_map f xs ++ ys) (append-nil (f x))

-- a byte goes into the register
pub with_byte : (depth count register byte : ℕ) (samples bytes : List ℕ) → byte < 256
    → Unpacked depth count register samples bytes
    → Unpacked depth (count + 8) (register * 256 + byte) samples (bytes ++ byte ∷ [])
with_byte depth count register byte samples bytes small u = record {
  fits = u.fits;
  below = let e = pow-add 2 count 8 in let h = u.below in omega arith;
  spelled =
      flat_map-push (bits_of 8) bytes byte
      ∙ ap (λ xs. xs ++ bits_of 8 byte) u.spelled
      ∙ append_assoc (flat_map (bits_of depth) samples) (bits_of count register) (bits_of 8 byte)
      ∙ ap (λ xs. flat_map (bits_of depth) samples ++ xs) (sym (bits_of-join count 8 register byte small));
}

-- a sample comes out of the register
pub with_sample : (depth count rest register : ℕ) (samples bytes : List ℕ) → depth + rest ≡ count
    → Unpacked depth count register samples bytes
    → Unpacked depth rest (register % 2 ^ rest) (samples ++ register / 2 ^ rest ∷ []) bytes
with_sample depth count rest register samples bytes whole u =
    let P : ℕ → Type 0 = λ n. register < 2 ^ n in
    let below : register < 2 ^ (depth + rest) = rw whole u.below in
    record {
      fits = All-push (λ x. x < 2 ^ depth) samples (register / 2 ^ rest) u.fits (shr_below register depth rest below);
      below = mod_below register (2 ^ rest) (pow_pos rest);
      spelled =
          u.spelled
          ∙ ap (λ n. flat_map (bits_of depth) samples ++ bits_of n register) (sym whole)
          ∙ ap (λ xs. flat_map (bits_of depth) samples ++ xs)
          (bits_of-split depth rest register ∙ ap (λ xs. bits_of depth (register / 2 ^ rest) ++ xs)
          (sym (bits_of-low rest register)))
          ∙ sym (append_assoc (flat_map (bits_of depth) samples) (bits_of depth (register / 2 ^ rest))
          (bits_of rest (register % 2 ^ rest)))
          ∙ ap (λ xs. xs ++ bits_of rest (register % 2 ^ rest))
          (sym (flat_map-push (bits_of depth) samples (register / 2 ^ rest)));
    }

-- at the end what is left is padding
pub spells_all : (depth count register : ℕ) (samples bytes : List ℕ) → count < 8
    → Unpacked depth count register samples bytes → Spells (bits_of depth) depth samples bytes
spells_all depth count register samples bytes few u = record {
  fits = u.fits;
  padding = bits_of count register;
  within_byte = let e = length-bits_of count register in omega arith;
  spelled = u.spelled;
}

-- at most 16 digits and a byte below them, by shifts
pub joined : (count register byte : ℕ) → count ≤ 16 → register < 2 ^ count → byte < 256
    → bit_or (register * 256 % 4294967296) byte ≡ register * 256 + byte
joined count register byte few below small =
    let top : 2 ^ count ≤ 2 ^ 16 = pow-le-pow_right {n = 2} (omega arith) few in
    let whole : register * 256 % 4294967296 ≡ register * 256 = mod-eq_of_lt (omega arith) in
    rw whole (or_shifted register 8 byte small)

-- the lowest digits, by a mask
pub masked : (width rest register : ℕ) → rest < width
    → bit_and register (1 * 2 ^ rest % 2 ^ width - 1) ≡ register % 2 ^ rest
masked width rest register few = let one = one_shl rest width few in rw one (and_mask register rest)

-- the digits that come out fit 16 bits
pub sample_fits : (depth count rest register : ℕ) → depth ≤ 16 → depth + rest ≡ count → register < 2 ^ count
    → register / 2 ^ rest < 65536
sample_fits depth count rest register small whole below =
    let P : ℕ → Type 0 = λ n. register < 2 ^ n in
    let top : 2 ^ depth ≤ 2 ^ 16 = pow-le-pow_right {n = 2} (omega arith) small in
    let h : register / 2 ^ rest < 2 ^ depth = shr_below register depth rest (subst P (sym whole) below) in
    omega arith

-- the lower digits of lower digits
mod-pow-mod : (n j k : ℕ) → n % 2 ^ (j + k) % 2 ^ k ≡ n % 2 ^ k
mod-pow-mod n j k = ap (λ m. m % 2 ^ k) (mod-pow-add n j k)
    ∙ mod-mul-add (n / 2 ^ k % 2 ^ j) (2 ^ k) (n % 2 ^ k) (mod_below n (2 ^ k) (pow_pos k))

-- before the first byte
pub nothing_yet : (depth : ℕ) → Unpacked depth 0 0 [] []
unfolding bits_of
nothing_yet depth = record { fits = All-nil (λ x. x < 2 ^ depth); below = omega arith; spelled = refl }

-- the next byte of a row
pub next_byte : (depth count register wider k next : ℕ) (samples bytes : List ℕ)
    → wider ≡ register * 256 + get_or bytes k 0 → next ≡ k + 1 → k < length bytes → get_or bytes k 0 < 256
    → Unpacked depth count register samples (take k bytes) → Unpacked depth (count + 8) wider samples (take next bytes)
next_byte depth count register wider k next samples bytes is step within small u =
    let P : List ℕ → Type 0 = λ xs. Unpacked depth (count + 8) wider samples xs in
    let Q : ℕ → Type 0 = λ r. Unpacked depth (count + 8) r samples (take k bytes ++ get_or bytes k 0 ∷ []) in
    let more = ap (λ n. take n bytes) step ∙ take_more bytes k 0 within in
    subst P (sym more) (subst Q (sym is)
    (with_byte depth count register (get_or bytes k 0) samples (take k bytes) small u))

-- the next sample of a row
pub next_sample : (depth count rest register i next sample : ℕ) (out bytes : List ℕ) → next ≡ i + 1
    → depth + rest ≡ count → i < length out → sample ≡ register / 2 ^ rest
    → Unpacked depth count register (take i out) bytes
    → Unpacked depth rest (register % 2 ^ rest) (take next (set out i sample)) bytes
next_sample depth count rest register i next sample out bytes step whole within is u =
    let P : List ℕ → Type 0 = λ xs. Unpacked depth rest (register % 2 ^ rest) xs bytes in
    let more : take next (set out i sample) ≡ take i out ++ register / 2 ^ rest ∷ [] =
    ap (λ n. take n (set out i sample)) step ∙ take_more_set out i sample within
    ∙ ap (λ x. take i out ++ x ∷ []) is in
    subst P (sym more) (with_sample depth count rest register (take i out) bytes whole u)

-- the next sample of a group of which the register holds all digits
pub next_field : (depth count rest register i next sample : ℕ) (out bytes : List ℕ) → next ≡ i + 1
    → depth + rest ≡ count → i < length out → sample ≡ register / 2 ^ rest % 2 ^ depth
    → Unpacked depth count (register % 2 ^ count) (take i out) bytes
    → Unpacked depth rest (register % 2 ^ rest) (take next (set out i sample)) bytes
next_field depth count rest register i next sample out bytes step whole within is u =
    let Q : ℕ → Type 0 = λ n. Unpacked depth count (register % 2 ^ n) (take i out) bytes in
    let P : ℕ → Type 0 = λ r. Unpacked depth rest r (take next (set out i sample)) bytes in
    let low = mod-pow-mod register depth rest in
    subst P low (next_sample depth count rest (register % 2 ^ (depth + rest)) i next sample out bytes step whole within
    (is ∙ sym (field_of register depth rest)) (subst Q (sym whole) u))

-- the first field of a register
pub whole_register : (depth count register : ℕ) (samples bytes : List ℕ) → Unpacked depth count register samples bytes
    → Unpacked depth count (register % 2 ^ count) samples bytes
whole_register depth count register samples bytes u =
    let P : ℕ → Type 0 = λ r. Unpacked depth count r samples bytes in
    subst P (sym (mod-eq_of_lt u.below)) u

-- a group is whole
pub group_end : (depth register : ℕ) (samples bytes : List ℕ) → Unpacked depth 0 (register % 2 ^ 0) samples bytes
    → Unpacked depth 0 0 samples bytes
group_end depth register samples bytes u =
    let P : ℕ → Type 0 = λ r. Unpacked depth 0 r samples bytes in
    subst P (omega arith) u

-- a row of n samples has a place for one more whose digits are read
pub has_place : (depth i n read : ℕ) → 8 ≤ depth → read ≤ n * depth + 7 → i * depth + depth ≤ read → i < n
has_place depth i n read low end at =
    elim (cases_lt i n) [
      | inl h ↦ h
      | inr h ↦ let more : n * depth ≤ i * depth = mul-le-mul_right depth h in absurd (omega arith)
    ]

-- a row of n samples is whole once its bytes are read
pub is_whole : (depth i count n read : ℕ) → 8 ≤ depth → n * depth ≤ read → read ≤ n * depth + 7
    → read ≡ i * depth + count → count < depth → i ≡ n
is_whole depth i count n read low start end at few =
    elim (cases_order i n) [
      | inl h ↦ h
      | inr h ↦ elim h [
        | inl less ↦ let more : (i + 1) * depth ≤ n * depth =
            mul-le-mul_right depth (omega arith) in absurd (omega arith)
        | inr more ↦ let less : (n + 1) * depth ≤ i * depth =
            mul-le-mul_right depth (omega arith) in absurd (omega arith)
      ]
    ]

-- whole groups, and the rest of the row after them
pub spells_joined : (depth : ℕ) (xs ys bytes more : List ℕ) → All (λ x. x < 2 ^ depth) xs
    → byte_bits bytes ≡ flat_map (bits_of depth) xs → Spells (bits_of depth) depth ys more
    → Spells (bits_of depth) depth (xs ++ ys) (bytes ++ more)
spells_joined depth xs ys bytes more fits spelled rest = record {
  fits = All-append (λ x. x < 2 ^ depth) xs ys fits rest.fits;
  padding = rest.padding;
  within_byte = rest.within_byte;
  spelled =
      flat_map-append (bits_of 8) bytes more
      ∙ ap (λ ds. ds ++ byte_bits more) spelled
      ∙ ap (λ ds. flat_map (bits_of depth) xs ++ ds) rest.spelled
      ∙ sym (append_assoc (flat_map (bits_of depth) xs) (flat_map (bits_of depth) ys) rest.padding)
      ∙ ap (λ ds. ds ++ rest.padding) (sym (flat_map-append (bits_of depth) xs ys));
}

-- the samples of whole groups
pub groups_spell : (depth : ℕ) (samples bytes : List ℕ) → Unpacked depth 0 0 samples bytes
    → byte_bits bytes ≡ flat_map (bits_of depth) samples
unfolding bits_of
groups_spell depth samples bytes u = u.spelled ∙ append-nil (flat_map (bits_of depth) samples)
