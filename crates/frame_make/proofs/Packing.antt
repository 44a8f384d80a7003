-- Samples of 12 bits, packed two by two.
use Rattle.std.proofs.Common.{◌≡◌, ℕ, ◌+◌, ◌*◌, ◌/◌, ◌%◌, ◌<◌, Bool, false, List, [], ◌∷◌, ◌++◌, length, replicate}
use Rattle.std.proofs.Common.{get_or, take, refl, sym, ap, ◌∙◌, arith, append_assoc, length-append}
use Rattle.std.specs.List.{flat_map}
use Rattle.std.proofs.lemmas.List.{append-nil, length-take-le, take_all, take_more}
use Rattle.std.proofs.lemmas.List.Concat.{flat_map-append}
use Rattle.std.proofs.lemmas.List.Elements.{All-cons, All-nil}
use Rattle.binary_digits.specs.Digits.{bits_of, byte_bits}
use Rattle.binary_digits.proofs.DigitLemmas.{bits_of-join, bits_of-low, bits_of-split, length-bits_of}
use Rattle.frame_make.specs.Made.{packed_row, whole_bytes}
use Rattle.frame_make.proofs.WholeBytes.{AreBytes, whole_more}

-- the digits of samples, twelve of each
abbrev digits : List ℕ → List Bool
digits samples = flat_map (bits_of 12) samples

pub length-digits : (samples : List ℕ) → length (digits samples) ≡ 12 * length samples
length-digits [] = refl
length-digits (x ∷ xs) =
    omega (arith, length-append (bits_of 12 x) (digits xs), length-bits_of 12 x, length-digits xs)

-- the upper eight digits, and the lower four with four others behind them
upper : (x : ℕ) → bits_of 12 x ≡ bits_of 8 (x / 16) ++ bits_of 4 x
upper x = bits_of-split 8 4 x

lower : (x : ℕ) → bits_of 12 x ≡ bits_of 4 (x / 256) ++ bits_of 8 x
lower x = bits_of-split 4 8 x

middle : (a low : ℕ) → low < 16 → bits_of 8 (a % 16 * 16 + low) ≡ bits_of 4 a ++ bits_of 4 low
middle a low h = bits_of-join 4 4 (a % 16) low h ∙ ap (λ xs. xs ++ bits_of 4 low) (bits_of-low 4 a)

pair_digits : (a b : ℕ) → b < 4096
    → byte_bits ((a / 16) ∷ (a % 16 * 16 + b / 256) ∷ (b % 256) ∷ []) ≡ digits (a ∷ b ∷ [])
pair_digits a b h =
    let one = bits_of 8 (a / 16) in
    let mid = middle a (b / 256) (omega arith) in
    let last : bits_of 8 (b % 256) ≡ bits_of 8 b = bits_of-low 8 b in
    let high = bits_of 4 (b / 256) in
    ap (λ xs. one ++ (xs ++ (bits_of 8 (b % 256) ++ []))) mid
    ∙ ap (λ xs. one ++ ((bits_of 4 a ++ high) ++ (xs ++ []))) last
    ∙ ap (λ xs. one ++ xs) (append_assoc (bits_of 4 a) high (bits_of 8 b ++ []))
    ∙ sym (append_assoc one (bits_of 4 a) (high ++ (bits_of 8 b ++ [])))
    ∙ ap (λ xs. xs ++ (high ++ (bits_of 8 b ++ []))) (sym (upper a))
    ∙ ap (λ xs. bits_of 12 a ++ xs) (sym (append_assoc high (bits_of 8 b) []))
    ∙ ap (λ xs. bits_of 12 a ++ (xs ++ [])) (sym (lower b))

zeros : bits_of 4 0 ≡ replicate 4 false
unfolding bits_of
zeros = refl

last_digits : (a : ℕ) → byte_bits ((a / 16) ∷ (a % 16 * 16) ∷ []) ≡ digits (a ∷ []) ++ replicate 4 false
last_digits a =
    let one = bits_of 8 (a / 16) in
    let mid : bits_of 8 (a % 16 * 16) ≡ bits_of 4 a ++ bits_of 4 0 =
    ap (bits_of 8) (omega arith) ∙ middle a 0 (omega arith) in
    ap (λ xs. one ++ (xs ++ [])) mid
    ∙ ap (λ xs. one ++ xs) (append-nil (bits_of 4 a ++ bits_of 4 0))
    ∙ sym (append_assoc one (bits_of 4 a) (bits_of 4 0))
    ∙ ap (λ xs. xs ++ bits_of 4 0) (sym (upper a))
    ∙ ap (λ xs. bits_of 12 a ++ xs) zeros
    ∙ ap (λ xs. xs ++ replicate 4 false) (sym (append-nil (bits_of 12 a)))

two_small : (x y : ℕ) → x < 256 → y < 256 → AreBytes (x ∷ y ∷ [])
two_small x y hx hy =
    let P : ℕ → Type 0 = λ byte. byte < 256 in
    All-cons P x (y ∷ []) hx (All-cons P y [] hy (All-nil P))

three_small : (x y z : ℕ) → x < 256 → y < 256 → z < 256 → AreBytes (x ∷ y ∷ z ∷ [])
three_small x y z hx hy hz = All-cons (λ byte. byte < 256) x (y ∷ z ∷ []) hx (two_small y z hy hz)

-- the bytes of two samples, and of a last one
abbrev pub pair_of : ℕ → ℕ → List ℕ
pair_of a b = (a / 16) ∷ (a % 16 * 16 + b / 256) ∷ (b % 256) ∷ []

abbrev pub last_of : ℕ → List ℕ
last_of a = (a / 16) ∷ (a % 16 * 16) ∷ []

packed_pair : (samples : List ℕ) (a b : ℕ) → length samples % 2 ≡ 0 → a < 4096 → b < 4096
    → packed_row samples ++ pair_of a b ≡ packed_row (samples ++ a ∷ b ∷ [])
unfolding packed_row
packed_pair samples a b even ha hb =
    let small = three_small (a / 16) (a % 16 * 16 + b / 256) (b % 256) (omega arith) (omega arith) (omega arith) in
    whole_more false (digits samples) (digits (a ∷ b ∷ [])) (pair_of a b) 0 (omega (arith, length-digits samples))
    (omega arith) small
    (pair_digits a b hb ∙ sym (append-nil (digits (a ∷ b ∷ []))))
    ∙ ap (whole_bytes false) (sym (flat_map-append (bits_of 12) samples (a ∷ b ∷ [])))

packed_last : (samples : List ℕ) (a : ℕ) → length samples % 2 ≡ 0 → a < 4096
    → packed_row samples ++ last_of a ≡ packed_row (samples ++ a ∷ [])
unfolding packed_row
packed_last samples a even ha =
    let small = two_small (a / 16) (a % 16 * 16) (omega arith) (omega arith) in
    whole_more false (digits samples) (digits (a ∷ [])) (last_of a) 4 (omega (arith, length-digits samples))
    (omega arith) small (last_digits a)
    ∙ ap (whole_bytes false) (sym (flat_map-append (bits_of 12) samples (a ∷ [])))

-- a row of no samples behind other bytes
pub packed_none : (out : List ℕ) → out ≡ out ++ packed_row []
unfolding packed_row whole_bytes
packed_none out = sym (append-nil out)

abbrev AreSamples : List ℕ → Type 0
AreSamples samples = (k : ℕ) → k < length samples → get_or samples k 0 < 4096

-- two more samples behind others, and the last one
pub two_more : (out samples : List ℕ) (k : ℕ) → 2 * k + 1 < length samples → AreSamples samples
    → (out ++ packed_row (take (2 * k) samples)) ++ pair_of (get_or samples (2 * k) 0) (get_or samples (2 * k + 1) 0)
    ≡ out ++ packed_row (take (2 * (k + 1)) samples)
two_more out samples k within small =
    let before = take (2 * k) samples in
    let a = get_or samples (2 * k) 0 in
    let b = get_or samples (2 * k + 1) 0 in
    let two : 2 * (k + 1) ≡ 2 * k + 1 + 1 = omega arith in
    let split : take (2 * (k + 1)) samples ≡ before ++ a ∷ b ∷ [] =
    ap (λ n. take n samples) two
    ∙ take_more samples (2 * k + 1) 0 within
    ∙ ap (λ xs. xs ++ b ∷ []) (take_more samples (2 * k) 0 (omega arith))
    ∙ append_assoc before (a ∷ []) (b ∷ []) in
    let even : length before % 2 ≡ 0 = omega (arith, length-take-le (2 * k) samples (omega arith)) in
    append_assoc out (packed_row before) (pair_of a b)
    ∙ ap (λ xs. out ++ xs) (packed_pair before a b even (small (2 * k) (omega arith)) (small (2 * k + 1) within)
    ∙ ap packed_row (sym split))

pub last_more : (out samples : List ℕ) (k : ℕ) → 2 * k + 1 ≡ length samples → AreSamples samples
    → (out ++ packed_row (take (2 * k) samples)) ++ last_of (get_or samples (2 * k) 0) ≡ out ++ packed_row samples
last_more out samples k last small =
    let before = take (2 * k) samples in
    let a = get_or samples (2 * k) 0 in
    let within : 2 * k < length samples = omega arith in
    let split : samples ≡ before ++ a ∷ [] =
    sym (take_all (2 * k + 1) samples (omega arith)) ∙ take_more samples (2 * k) 0 within in
    let even : length before % 2 ≡ 0 = omega (arith, length-take-le (2 * k) samples (omega arith)) in
    append_assoc out (packed_row before) (last_of a)
    ∙ ap (λ xs. out ++ xs) (packed_last before a even (small (2 * k) within) ∙ ap packed_row (sym split))
