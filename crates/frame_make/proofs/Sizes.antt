-- How many bytes a made frame has at most.
use Rattle.std.proofs.Common.{◌≡◌, ℕ, zero, suc, ◌+◌, ◌*◌, ◌≤◌, Bool, true, false, cond, eqb, ℤ, pos, get_or, inl, inr}
use Rattle.std.proofs.Common.{List, [], ◌∷◌, ◌++◌, length, length-append, refl, ap, ◌∙◌, arith, ne_eqb}
use Rattle.std.specs.Prelude.{◌-ℤ◌}
use Rattle.std.specs.List.{flat_map, range_with_len}
use Rattle.std.proofs.lemmas.Bool.{cases_lt, cond-false, cond-true, le-ltb, lt-ltb}
use Rattle.std.proofs.Math.Nat.{mul-le-mul_left}
use Rattle.byteorder.specs.Endian.{little_bytes}
use Rattle.binary_digits.specs.Digits.{bits_of}
use Rattle.binary_digits.proofs.DigitLemmas.{length-bits_of}
use Rattle.strip_unpack.specs.Samples.{row_bytes}
use Rattle.ljpeg_huffman.specs.Differences.{further_bits, modulo}
use Rattle.ljpeg_predict.specs.Encoding.{category_of, code_word, difference_at, difference_bits, extra_of, head}
use Rattle.ljpeg_predict.specs.Encoding.{sample_bits, stuffed}
use Rattle.ljpeg_predict.specs.Prediction.{prediction}
use Rattle.ljpeg_predict.specs.Scans.{Scan}
use Rattle.ljpeg_predict.proofs.EncodeLemmas.{sample_bits-more, sample_bits-none, signed_digits}
use Rattle.ljpeg_predict.proofs.ModuloLemmas.{modulo_below}
use Rattle.frame_make.specs.Accepted.{AreSides}
use Rattle.frame_make.specs.Made.{made_row, made_samples, packed_row, stream_bits, stream_of, whole_bytes}
use Rattle.frame_make.proofs.Planes.{length-pairs, packed_long}
use Rattle.frame_make.proofs.Rows.{length-made_samples, length-rows}
use Rattle.frame_make.proofs.WholeBytes.{length-whole}

-- a difference takes at most 21 bits
short_code : (category : ℕ) → length (code_word category) ≤ 5
short_code category =
    elim (cases_lt category 14) [
      | inl small ↦
          let is : code_word category ≡ bits_of 4 category = cond-true _ _ _ (lt-ltb category 14 small) in
          omega (arith, ap length is, length-bits_of 4 category)
      | inr large ↦
          let is : code_word category ≡ bits_of 5 (category + 14) = cond-false _ _ _ (le-ltb category 14 large) in
          omega (arith, ap length is, length-bits_of 5 (category + 14))
    ]

few_further : (category : ℕ) → category ≤ 16 → further_bits category ≤ 16
few_further category h =
    elim (cases_lt category 16) [
      | inl small ↦ let is : further_bits category ≡ category =
          cond-false _ _ _ (ne_eqb category 16 (omega arith)) in omega (arith, is)
      | inr large ↦ let is : further_bits 16 ≡ 0 = refl in let same : category ≡ 16 =
          omega arith in omega (arith, ap further_bits same, is)
    ]

short_difference : (d : ℤ) → category_of d ≤ 16 → length (difference_bits d) ≤ 21
unfolding difference_bits
short_difference d h =
    let category = category_of d in
    let word = code_word category in
    let further = bits_of (further_bits category) (extra_of d) in
    omega (
      arith,
      length-append word further,
      short_code category,
      length-bits_of (further_bits category) (extra_of d),
      few_further category h,
    )

place_short : (scan : Scan) (samples : List ℕ) (place : ℕ)
    → length (difference_bits (difference_at scan samples place)) ≤ 21
unfolding difference_at
place_short scan samples place =
    let below = modulo_below (pos (get_or samples place 0) -ℤ prediction scan samples place) in
    let digits = signed_digits (modulo (pos (get_or samples place 0) -ℤ prediction scan samples place)) below in
    short_difference (difference_at scan samples place) digits.few

all_short : (scan : Scan) (samples : List ℕ) (count : ℕ) → length (sample_bits scan samples count) ≤ 21 * count
all_short scan samples zero = omega (arith, ap length (sample_bits-none scan samples))
all_short scan samples (suc count) =
    let before = all_short scan samples count in
    let here = place_short scan samples count in
    let next : suc count ≡ count + 1 = omega arith in
    let split = ap length (ap (sample_bits scan samples) next ∙ sample_bits-more scan samples count) in
    omega (
      arith,
      split,
      length-append (sample_bits scan samples count)
          (difference_bits (difference_at scan samples count)),
    )

-- stuffing at most doubles bytes
one_or_two : (b : Bool) (byte : ℕ) → length (cond b (255 ∷ 0 ∷ []) (byte ∷ [])) ≤ 2
one_or_two true byte = omega arith
one_or_two false byte = omega arith

stuffed_short : (bytes : List ℕ) → length (stuffed bytes) ≤ 2 * length bytes
unfolding stuffed
stuffed_short [] = omega arith
stuffed_short (byte ∷ bytes) =
    let first = cond (eqb byte 255) (255 ∷ 0 ∷ []) (byte ∷ []) in
    omega (arith, length-append first (stuffed bytes), one_or_two (eqb byte 255) byte, stuffed_short bytes)

bits_short : (samples : List ℕ) (w h : ℕ) → length (stream_bits w h samples) ≤ 21 * length samples
unfolding stream_bits
bits_short samples w h = all_short _ samples (length samples)

pub stream_short : (samples : List ℕ) (w h : ℕ) → length samples ≤ 33554432 → length (stream_of w h samples) ≤ 268000000
unfolding stream_of
stream_short samples w h few =
    let whole = whole_bytes true (stream_bits w h samples) in
    let first = head 12 h w 1 in
    let all = length-append (first ++ stuffed whole) (0xFF ∷ 0xD9 ∷ []) in
    let prefix = length-append first (stuffed whole) in
    omega (arith, all, prefix, stuffed_short whole, length-whole true (stream_bits w h samples), bits_short samples w h)

-- packed samples take fewer bytes than two each
pub packed_short : (number w h : ℕ) → AreSides w h
    → length (flat_map (λ r. packed_row (made_row number w r)) (range_with_len 0 h)) ≤ 67108864
packed_short number w h sides =
    let size = length-rows (λ r. packed_row (made_row number w r)) (row_bytes 12 w) 0 h (packed_long number w) in
    let row : row_bytes 12 w ≤ 2 * w = omega (arith, sides.some_cols) in
    let most : h * row_bytes 12 w ≤ h * (2 * w) = mul-le-mul_left h row in
    let pairs : h * (2 * w) ≡ 2 * (w * h) = omega arith in
    omega (arith, size, most, pairs, sides.area)

pub pairs_short : (number w h : ℕ) → AreSides w h
    → length (flat_map (little_bytes 2) (made_samples number w h)) ≤ 67108864
pairs_short number w h sides =
    omega (arith, length-pairs (made_samples number w h), length-made_samples number w h, sides.area)
