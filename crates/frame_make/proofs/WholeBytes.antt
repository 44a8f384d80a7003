-- Digits as whole bytes, and the digits of such bytes.
use Rattle.std.proofs.Common.{◌≡◌, ℕ, zero, suc, ◌+◌, ◌-◌, ◌*◌, ◌/◌, ◌%◌, ◌^◌, ◌<◌, ◌≤◌, Bool, List, [], ◌∷◌, ◌++◌, All}
use Rattle.std.proofs.Common.{length, map, replicate, take, drop, refl, sym, ap, ◌∙◌, subst, arith, append_assoc}
use Rattle.std.proofs.Common.{length-append}
use Rattle.std.specs.List.{range_with_len}
use Rattle.std.specs.Fork.{slice_chunk}
use Rattle.std.proofs.lemmas.List.{append-nil, drop_at, length-replicate, take-replicate, take_at}
use Rattle.std.proofs.lemmas.List.Concat.{flat_map-append}
use Rattle.std.proofs.lemmas.List.Elements.{All-append, All-from_get_or, All-head, All-tail}
use Rattle.std.proofs.lemmas.List.FromFn.{get_or-map-range_with_len, length-map-range_with_len, map-range_with_len_more}
use Rattle.std.proofs.Math.Seq.{take-add}
use Rattle.binary_digits.specs.Digits.{bits_of, byte_bits, number_of}
use Rattle.binary_digits.proofs.DigitLemmas.{append_same_size, byte_bits-append, bits_of-number_of, length-bits_of}
use Rattle.binary_digits.proofs.DigitLemmas.{length-byte_bits, number_of-lt, same_number}
use Rattle.strip_unpack.proofs.Rows.{length_part}
use Rattle.frame_make.specs.Made.{whole_bytes}

-- each is a byte
abbrev pub AreBytes : List ℕ → Type 0
AreBytes bytes = All (λ byte. byte < 256) bytes

-- byte k of digits
abbrev byte_at : List Bool → ℕ → ℕ
byte_at bits k = number_of (slice_chunk bits 8 k)

byte_digits : (bits : List Bool) (count n : ℕ) → count * 8 ≤ length bits → n < count
    → bits_of 8 (byte_at bits n) ≡ slice_chunk bits 8 n
byte_digits bits count n long h =
    let part = slice_chunk bits 8 n in
    let size : length part ≡ 8 = length_part 8 n count bits h long in
    ap (λ k. bits_of k (number_of part)) (sym size) ∙ bits_of-number_of part

byte_small : (bits : List Bool) (count n : ℕ) → count * 8 ≤ length bits → n < count → byte_at bits n < 256
byte_small bits count n long h =
    let part = slice_chunk bits 8 n in
    let size : length part ≡ 8 = length_part 8 n count bits h long in
    let P : ℕ → Type 0 = λ k. number_of part < 2 ^ k in
    subst P size (number_of-lt part)

-- the digits of the first bytes
first_bytes : (bits : List Bool) (count : ℕ) → count * 8 ≤ length bits → (n : ℕ) → n ≤ count
    → byte_bits (map (byte_at bits) (range_with_len 0 n)) ≡ take (n * 8) bits
first_bytes bits count long zero h = refl
first_bytes bits count long (suc n) h =
    let g = byte_at bits in
    let next : suc n ≡ n + 1 = omega arith in
    let more : suc n * 8 ≡ n * 8 + 8 = omega arith in
    let before = first_bytes bits count long n (omega arith) in
    let here : bits_of 8 (g n) ++ [] ≡ slice_chunk bits 8 n =
    append-nil (bits_of 8 (g n)) ∙ byte_digits bits count n long h in
    ap (λ k. byte_bits (map g (range_with_len 0 k))) next
    ∙ ap byte_bits (map-range_with_len_more g 0 n n (omega arith))
    ∙ flat_map-append (bits_of 8) (map g (range_with_len 0 n)) (g n ∷ [])
    ∙ ap (λ xs. xs ++ (bits_of 8 (g n) ++ [])) before
    ∙ ap (λ xs. take (n * 8) bits ++ xs) here
    ∙ sym (take-add (n * 8) 8 bits)
    ∙ ap (λ k. take k bits) (sym more)

-- how many bytes hold so many digits, and how many digits the last of them lacks
abbrev pub byte_count : ℕ → ℕ
byte_count digits = (digits + 7) / 8

abbrev pub lacking : ℕ → ℕ
lacking digits = byte_count digits * 8 - digits

pub length-whole : (fill : Bool) (bits : List Bool) → length (whole_bytes fill bits) ≡ byte_count (length bits)
unfolding whole_bytes
length-whole fill bits = length-map-range_with_len (byte_at (bits ++ replicate 7 fill)) 0 (byte_count (length bits))

padded_enough : (fill : Bool) (bits : List Bool) → byte_count (length bits) * 8 ≤ length (bits ++ replicate 7 fill)
padded_enough fill bits = omega (arith, length-append bits (replicate 7 fill), length-replicate 7 fill)

pub whole_small : (fill : Bool) (bits : List Bool) → AreBytes (whole_bytes fill bits)
unfolding whole_bytes
whole_small fill bits =
    let padded = bits ++ replicate 7 fill in
    let count = byte_count (length bits) in
    let all = map (byte_at padded) (range_with_len 0 count) in
    let size = length-map-range_with_len (byte_at padded) 0 count in
    All-from_get_or (λ byte. byte < 256) all 0 (λ k h.
    let within : k < count = omega arith in
    rw (get_or-map-range_with_len (byte_at padded) 0 count k k 0 within (omega arith))
    (byte_small padded count k (padded_enough fill bits) within))

-- the digits of whole bytes
pub whole_digits : (fill : Bool) (bits : List Bool)
    → byte_bits (whole_bytes fill bits) ≡ bits ++ replicate (lacking (length bits)) fill
unfolding whole_bytes
whole_digits fill bits =
    let padded = bits ++ replicate 7 fill in
    let count = byte_count (length bits) in
    let size = length bits in
    let rest = lacking size in
    let split : count * 8 ≡ size + rest = omega arith in
    let few : rest ≤ 7 = omega arith in
    first_bytes padded count (padded_enough fill bits) count (omega arith)
    ∙ ap (λ k. take k padded) split
    ∙ take-add size rest padded
    ∙ ap (λ xs. xs ++ take rest (drop size padded)) (take_at bits (replicate 7 fill) size refl)
    ∙ ap (λ xs. bits ++ take rest xs) (drop_at bits (replicate 7 fill) size refl)
    ∙ ap (λ xs. bits ++ xs) (take-replicate rest 7 fill few)

-- bytes are told by their digits
pub same_bytes : (xs ys : List ℕ) → AreBytes xs → AreBytes ys → length xs ≡ length ys → byte_bits xs ≡ byte_bits ys
    → xs ≡ ys
same_bytes [] [] hx hy long e = refl
same_bytes [] (y ∷ ys) hx hy long e = absurd (omega arith)
same_bytes (x ∷ xs) [] hx hy long e = absurd (omega arith)
same_bytes (x ∷ xs) (y ∷ ys) hx hy long e =
    let P : ℕ → Type 0 = λ z. z < 256 in
    let split = append_same_size (bits_of 8 x) (bits_of 8 y) (byte_bits xs) (byte_bits ys) e
    (length-bits_of 8 x ∙ sym (length-bits_of 8 y)) in
    let first = same_number 8 x y (All-head P x xs hx) (All-head P y ys hy) split.0 in
    let rest = same_bytes xs ys (All-tail P x xs hx) (All-tail P y ys hy) (omega arith) split.1 in
    cc

-- bytes whose digits are these and fewer than eight of one kind are the whole bytes
pub whole_alone : (fill : Bool) (bits : List Bool) (bytes : List ℕ) (n : ℕ) → n < 8 → AreBytes bytes
    → byte_bits bytes ≡ bits ++ replicate n fill → bytes ≡ whole_bytes fill bits
whole_alone fill bits bytes n few small digits =
    let size = length bits in
    let one : 8 * length bytes ≡ size + n =
    sym (length-byte_bits bytes) ∙ ap length digits ∙ length-append bits (replicate n fill)
    ∙ ap (λ k. size + k) (length-replicate n fill) in
    let other = length-whole fill bits in
    let lack : n ≡ lacking size = omega arith in
    let same : byte_bits bytes ≡ byte_bits (whole_bytes fill bits) =
    digits ∙ ap (λ k. bits ++ replicate k fill) lack ∙ sym (whole_digits fill bits) in
    same_bytes bytes (whole_bytes fill bits) small (whole_small fill bits) (omega arith) same

-- bytes behind those of digits that fill them
pub whole_more : (fill : Bool) (bits more : List Bool) (bytes : List ℕ) (n : ℕ) → length bits % 8 ≡ 0 → n < 8
    → AreBytes bytes → byte_bits bytes ≡ more ++ replicate n fill
    → whole_bytes fill bits ++ bytes ≡ whole_bytes fill (bits ++ more)
whole_more fill bits more bytes n full few small digits =
    let none : lacking (length bits) ≡ 0 = omega arith in
    let first : byte_bits (whole_bytes fill bits) ≡ bits =
    whole_digits fill bits ∙ ap (λ k. bits ++ replicate k fill) none ∙ append-nil bits in
    let both : byte_bits (whole_bytes fill bits ++ bytes) ≡ (bits ++ more) ++ replicate n fill =
    byte_bits-append (whole_bytes fill bits) bytes
    ∙ ap (λ xs. xs ++ byte_bits bytes) first
    ∙ ap (λ xs. bits ++ xs) digits
    ∙ sym (append_assoc bits more (replicate n fill)) in
    whole_alone fill (bits ++ more) (whole_bytes fill bits ++ bytes) n few
    (All-append (λ byte. byte < 256) (whole_bytes fill bits) bytes (whole_small fill bits) small) both
