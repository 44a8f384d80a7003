-- Samples of 16 bits, as two bytes each, and of 8 bits, as one.
use Rattle.std.proofs.Common.{◌≡◌, ℕ, suc, ◌*◌, ◌^◌, ◌<◌, List, [], ◌∷◌, ◌++◌, All, length, get_or, drop, refl, sym, ap}
use Rattle.std.proofs.Common.{◌∙◌, arith, append_assoc}
use Rattle.std.specs.List.{flat_map}
use Rattle.std.proofs.lemmas.List.{append-nil}
use Rattle.std.proofs.lemmas.List.Elements.{All-from_get_or}
use Rattle.byteorder.specs.Endian.{IsRead, big_number, little_number}
use Rattle.tiff_dirs.specs.declared.Order.{Order}
use Rattle.tiff_dirs.specs.declared.Order.TheVariants.{Big, Little}
use Rattle.binary_digits.specs.Digits.{bits_of, byte_bits}
use Rattle.strip_unpack.specs.Samples.{Spells, sample_bits}
use Rattle.strip_unpack.proofs.FileOrder.{big_digits, little_digits}

-- the bytes of numbers of two bytes that were read one after the other
read_pairs : (order : Order) (number : ℕ → List ℕ → ℕ)
    → ((a b : ℕ) (rest : List ℕ) → a < 256 → b < 256
    → sample_bits order 16 (number 2 (a ∷ b ∷ rest)) ≡ bits_of 8 a ++ bits_of 8 b) → (bytes out : List ℕ)
    → length bytes ≡ 2 * length out → ((i : ℕ) → get_or bytes i 0 < 256) → IsRead number 2 bytes out
    → byte_bits bytes ≡ flat_map (sample_bits order 16) out
read_pairs order number back [] [] long small read = refl
read_pairs order number back [] (x ∷ out) long small read = absurd (omega arith)
read_pairs order number back (a ∷ []) [] long small read = absurd (omega arith)
read_pairs order number back (a ∷ []) (x ∷ out) long small read = absurd (omega arith)
read_pairs order number back (a ∷ b ∷ bytes) [] long small read = absurd (omega arith)
read_pairs order number back (a ∷ b ∷ bytes) (x ∷ out) long small read =
    let first : x ≡ number 2 (a ∷ b ∷ bytes) = read 0 (omega arith) in
    let pair : sample_bits order 16 x ≡ bits_of 8 a ++ bits_of 8 b =
    ap (sample_bits order 16) first ∙ back a b bytes (small 0) (small 1) in
    let later : IsRead number 2 bytes out = λ k h.
    let two : 2 * suc k ≡ suc (suc (2 * k)) = omega arith in
    read (suc k) (omega arith) ∙ ap (λ n. number 2 (drop n (a ∷ b ∷ bytes))) two in
    let rest = read_pairs order number back bytes out (omega arith) (λ i. small (suc (suc i))) later in
    rw (pair, ← rest) (sym (append_assoc (bits_of 8 a) (bits_of 8 b) (byte_bits bytes)))

little_back : (a b : ℕ) (rest : List ℕ) → a < 256 → b < 256
    → sample_bits Little 16 (little_number 2 (a ∷ b ∷ rest)) ≡ bits_of 8 a ++ bits_of 8 b
little_back a b rest ha hb = ap (sample_bits Little 16) (omega arith) ∙ little_digits a b ha hb

big_back : (a b : ℕ) (rest : List ℕ) → a < 256 → b < 256
    → sample_bits Big 16 (big_number 2 (a ∷ b ∷ rest)) ≡ bits_of 8 a ++ bits_of 8 b
big_back a b rest ha hb = ap (sample_bits Big 16) (omega arith) ∙ big_digits a b ha hb

whole_pairs : (order : Order) (bytes out : List ℕ) → All (λ x. x < 2 ^ 16) out
    → byte_bits bytes ≡ flat_map (sample_bits order 16) out → Spells (sample_bits order 16) 16 out bytes
whole_pairs order bytes out fits spelled = record {
  fits = fits;
  padding = [];
  within_byte = omega arith;
  spelled = spelled ∙ sym (append-nil (flat_map (sample_bits order 16) out));
}

-- numbers that were read from two bytes, the lower one first
pub spells_little : (bytes out : List ℕ) → length bytes ≡ 2 * length out → ((i : ℕ) → get_or bytes i 0 < 256)
    → All (λ x. x < 2 ^ 16) out → IsRead little_number 2 bytes out → Spells (sample_bits Little 16) 16 out bytes
spells_little bytes out long small fits read =
    whole_pairs Little bytes out fits (read_pairs Little little_number little_back bytes out long small read)

-- numbers that were read from two bytes, the higher one first
pub spells_big : (bytes out : List ℕ) → length bytes ≡ 2 * length out → ((i : ℕ) → get_or bytes i 0 < 256)
    → All (λ x. x < 2 ^ 16) out → IsRead big_number 2 bytes out → Spells (sample_bits Big 16) 16 out bytes
spells_big bytes out long small fits read =
    whole_pairs Big bytes out fits (read_pairs Big big_number big_back bytes out long small read)

-- samples that are their bytes
pub spells_bytes : (bytes : List ℕ) → ((i : ℕ) → get_or bytes i 0 < 256) → Spells (bits_of 8) 8 bytes bytes
spells_bytes bytes small = record {
  fits = All-from_get_or (λ x. x < 2 ^ 8) bytes 0 (λ i h. small i);
  padding = [];
  within_byte = omega arith;
  spelled = sym (append-nil (byte_bits bytes));
}
