-- Differences as bits.
use Rattle.std.proofs.Common.{◌≡◌, ◌≢◌, ℕ, suc, ◌+◌, ◌-◌, ◌*◌, ◌%◌, ◌^◌, ◌<◌, ◌≤◌, inl, inr, Bool, ℤ, pos, negsuc, List}
use Rattle.std.proofs.Common.{[], ◌∷◌, ◌++◌, get_or, unsigned_abs, refl, sym, ap, ap₂, ◌∙◌, subst, arith, append_assoc}
use Rattle.std.proofs.Common.{append-nil, ne_eqb, zero-add, true, replicate, lit<}
use Rattle.std.specs.Int.{leading_zeros, w32}
use Rattle.std.specs.List.{flat_map, range_with_len}
use Rattle.std.proofs.Math.Nat.{pow-le-pow_right}
use Rattle.std.proofs.lemmas.Bool.{cases_lt, cond-true, cond-false, lt-ltb, le-ltb}
use Rattle.std.proofs.lemmas.Grind.{flat_map-append}
use Rattle.std.proofs.lemmas.Int.{ints}
use Rattle.std.proofs.lemmas.List.FromFn.{map-range_with_len_more}
use Rattle.std.proofs.lemmas.List.{map-id}
use Rattle.std.proofs.lemmas.Nat.{leading_length, mul-add-lt, one_shl, pow-add}
use Rattle.binary_digits.specs.Digits.{bits_of, byte_bits}
use Rattle.binary_digits.proofs.DigitLemmas.{bits_of-join, bits_of-zero, byte_bits-append}
use Rattle.ljpeg_huffman.specs.Differences.{further_bits, modulo}
use Rattle.ljpeg_predict.specs.Encoding.{category_of, code_word, difference_at, difference_bits, extra_of, sample_bits}
use Rattle.ljpeg_predict.specs.Encoding.{signed, stuffed, written_scan}
use Rattle.ljpeg_predict.specs.Prediction.{predicted, prediction}
use Rattle.ljpeg_predict.specs.inner.Writing.{Adds, AddsLast}
use Rattle.ljpeg_predict.specs.Scans.{Scan}
use Rattle.ljpeg_predict.specs.declared.scan.Predictor.{Predictor}
use Rattle.ljpeg_predict.specs.declared.writer.Pending.{Pending}
use Rattle.ljpeg_predict.proofs.ModuloLemmas.{modulo-sub}
use Rattle.ljpeg_predict.proofs.PredictionLemmas.{prediction_above, prediction_inner, prediction_left, prediction_start}
use Rattle.ljpeg_predict.proofs.WriterLemmas.{stuffed-append}

-- ---- signs and categories

pub signed_low : (number : ℕ) → number ≤ 32768 → signed number ≡ pos number
signed_low number h = cond-false _ _ _ (le-ltb 32768 number h)

pub signed_high : (number : ℕ) → 32768 < number → number < 65536 → signed number ≡ negsuc (65535 - number)
signed_high number h k = cond-true _ _ _ (lt-ltb 32768 number h) ∙ omega (arith, ints)

pub magnitude_low : (number : ℕ) → number ≤ 32768 → number ≡ unsigned_abs (signed number)
magnitude_low number h = sym (ap unsigned_abs (signed_low number h))

pub magnitude_high : (number : ℕ) → 32768 < number → number < 65536 → 65536 - number ≡ unsigned_abs (signed number)
magnitude_high number h k = let e : 65536 - number ≡ suc (65535 - number) =
    omega arith in e ∙ sym (ap unsigned_abs (signed_high number h k))

-- how many digits a magnitude has
pub record HasDigits (magnitude digits : ℕ) : Type 0 where
  pub above : magnitude < 2 ^ digits
  pub below : 2 ^ digits ≤ 2 * magnitude + 1
  pub few : digits ≤ 16

pub digits_of : (magnitude : ℕ) → magnitude ≤ 32768 → HasDigits magnitude (32 - leading_zeros w32 magnitude)
digits_of magnitude h =
    let t = leading_length 32 magnitude (omega arith) in
    let count : 32 - leading_zeros w32 magnitude ≡ t.0 = omega (arith, t.1) in
    subst (HasDigits magnitude) (sym count) (record {
      above = t.2;
      below = t.3;
      few = elim (cases_lt 16 t.0) [
        | inl many ↦ let most : 2 ^ 17 ≤ 2 ^ t.0 = pow-le-pow_right (lit< tt) many in absurd (omega (arith, most, t.3))
        | inr few ↦ few
      ];
    })

pub signed_digits : (number : ℕ) → number < 65536
    → HasDigits (unsigned_abs (signed number)) (category_of (signed number))
signed_digits number h =
    elim (cases_lt 32768 number) [
      | inl high ↦ digits_of (unsigned_abs (signed number)) (omega (arith, magnitude_high number high h))
      | inr low ↦ digits_of (unsigned_abs (signed number)) (omega (arith, magnitude_low number low))
    ]

-- ---- bits

pub difference_bits_are : (d : ℤ) (category code size extra : ℕ) → category ≡ category_of d
    → bits_of size code ≡ code_word category
    → bits_of (further_bits category) extra ≡ bits_of (further_bits category) (extra_of d)
    → difference_bits d ≡ bits_of size code ++ bits_of (further_bits category) extra
unfolding difference_bits
difference_bits_are d category code size extra e word more =
    sym (ap₂ (λ x y. x ++ y) (word ∙ ap code_word e) (more ∙ ap (λ c. bits_of (further_bits c) (extra_of d)) e))

-- category 16 has no further bits
pub largest_bits_are : (d : ℤ) (category code size : ℕ) → category ≡ category_of d → category ≡ 16
    → bits_of size code ≡ code_word category → difference_bits d ≡ bits_of size code
largest_bits_are d category code size e largest word =
    let none : further_bits category ≡ 0 = ap further_bits largest in
    difference_bits_are d category code size 0 e word
    (ap (λ n. bits_of n 0) none ∙ bits_of-zero 0 ∙ sym
    (ap (λ n. bits_of n (extra_of d)) none ∙ bits_of-zero (extra_of d)))
    ∙ ap (λ n. bits_of size code ++ bits_of n 0) none ∙ ap (λ x. bits_of size code ++ x) (bits_of-zero 0)
    ∙ append-nil (bits_of size code)

-- the others have as many as their number
pub other_bits_are : (d : ℤ) (category code size extra : ℕ) → category ≡ category_of d → category < 16
    → bits_of size code ≡ code_word category → extra ≡ extra_of d → extra < 2 ^ category
    → difference_bits d ≡ bits_of (size + category) (code * (1 * 2 ^ category % 2 ^ 32) + extra)
other_bits_are d category code size extra e less word is small =
    let further : further_bits category ≡ category = cond-false _ _ _ (ne_eqb category 16 (omega arith)) in
    let shift : 1 * 2 ^ category % 2 ^ 32 ≡ 2 ^ category = one_shl category 32 (omega arith) in
    difference_bits_are d category code size extra e word (ap (bits_of (further_bits category)) is)
    ∙ ap (λ n. bits_of size code ++ bits_of n extra) further ∙ sym (bits_of-join size category code extra small)
    ∙ ap (λ n. bits_of (size + category) (code * n + extra)) (sym shift)

-- bits behind pending ones, behind others
pub adds_more : (old middle new : List ℕ) (bits more : List Bool) (left after : Pending) → Adds old middle bits left
    → Adds middle new (bits_of left.held left.word ++ more) after → Adds old new (bits ++ more) after
adds_more old middle new bits more left after a b =
    let pending = bits_of left.held left.word in
    let still = bits_of after.held after.word in
    record {
      stretch = a.stretch ++ b.stretch;
      is = b.is ∙ ap (λ x. x ++ stuffed b.stretch) a.is ∙ append_assoc old (stuffed a.stretch) (stuffed b.stretch)
          ∙ ap (λ x. old ++ x) (sym (stuffed-append a.stretch b.stretch));
      digits = ap (λ x. x ++ still) (byte_bits-append a.stretch b.stretch)
          ∙ append_assoc (byte_bits a.stretch) (byte_bits b.stretch) still ∙ ap (λ x. byte_bits a.stretch ++ x) b.digits
          ∙ sym (append_assoc (byte_bits a.stretch) pending more) ∙ ap (λ x. x ++ more) a.digits;
    }

-- the last bits behind pending ones
pub adds_more_last : (old middle new : List ℕ) (bits : List Bool) (left : Pending) → Adds old middle bits left
    → AddsLast middle new (bits_of left.held left.word) → AddsLast old new bits
adds_more_last old middle new bits left a b =
    let pending = bits_of left.held left.word in
    record {
      stretch = a.stretch ++ b.stretch;
      is = b.is ∙ ap (λ x. x ++ stuffed b.stretch) a.is ∙ append_assoc old (stuffed a.stretch) (stuffed b.stretch)
          ∙ ap (λ x. old ++ x) (sym (stuffed-append a.stretch b.stretch));
      ones = b.ones;
      few = b.few;
      digits = byte_bits-append a.stretch b.stretch ∙ ap (λ x. byte_bits a.stretch ++ x) b.digits
          ∙ sym (append_assoc (byte_bits a.stretch) pending (replicate b.ones true))
          ∙ ap (λ x. x ++ replicate b.ones true) a.digits;
    }

-- a code word and further bits as one number
pub joined_below : (code size extra further : ℕ) → code < 2 ^ size → extra < 2 ^ further
    → code * 2 ^ further + extra < 2 ^ (size + further)
joined_below code size extra further h k = let e : 2 ^ (size + further) ≡ 2 ^ further * 2 ^ size =
    pow-add 2 size further ∙ omega arith in omega (arith, e, mul-add-lt code (2 ^ further) extra (2 ^ size) h k)

-- ---- predictions of one component

module _ (precision lines columns place : ℕ) (predictor : Predictor) (samples : List ℕ) where
  abbrev scan : Scan
  scan = written_scan precision lines columns predictor []

  abbrev whole : columns * 1 ≡ columns
  whole = omega arith

  pub at_start : place ≡ 0 → 1 * 2 ^ (precision - 1) % 2 ^ 16 ≡ modulo (prediction scan samples place)
  at_start e =
      let one : 1 * 2 ^ (precision - 1) ≡ 2 ^ (precision - 1) = omega arith in
      ap (λ n. n % 2 ^ 16) one ∙ ap modulo (sym (prediction_start scan samples place (omega arith)))

  pub in_first_line : place ≢ 0 → place < columns → get_or samples (place - 1) 0 < 65536
      → get_or samples (place - 1) 0 ≡ modulo (prediction scan samples place)
  in_first_line some h small =
      let same : get_or samples (place - 1) 0 ≡ get_or samples (place - 1) 0 % 65536 = omega arith in
      same ∙ ap modulo (sym (prediction_left scan samples place (omega arith) (omega arith)))

  pub in_first_column : columns ≤ place → 0 < columns → place % columns ≡ 0 → get_or samples (place - columns) 0 < 65536
      → get_or samples (place - columns) 0 ≡ modulo (prediction scan samples place)
  in_first_column h some e small =
      let same : get_or samples (place - columns) 0 ≡ get_or samples (place - columns) 0 % 65536 = omega arith in
      let column : place % (columns * 1) ≡ 0 = ap (λ n. place % n) whole ∙ e in
      same ∙ ap (λ n. get_or samples (place - n) 0 % 65536) (sym whole)
      ∙ ap modulo (sym (prediction_above scan samples place (omega arith) (omega arith) (omega (arith, column))))

  pub within : columns ≤ place → 0 < columns → place % columns ≢ 0 → (p : ℕ)
      → p ≡ modulo (predicted predictor (get_or samples (place - 1) 0) (get_or samples (place - columns) 0)
      (get_or samples (place - columns - 1) 0)) → p ≡ modulo (prediction scan samples place)
  within h some e p is =
      let column : place % (columns * 1) ≡ place % columns = ap (λ n. place % n) whole in
      is ∙ ap (λ n. modulo (predicted predictor (get_or samples (place - 1) 0) (get_or samples (place - n) 0)
      (get_or samples (place - n - 1) 0))) (sym whole)
      ∙ ap modulo (sym (prediction_inner scan samples place (omega arith) (omega arith) (omega (arith, column))))

-- ---- all samples

pub sample_bits-none : (scan : Scan) (samples : List ℕ) → sample_bits scan samples 0 ≡ []
unfolding sample_bits
sample_bits-none told samples = refl

-- the places below count + 1 are those below count, and count
pub one_place : (count : ℕ) → range_with_len 0 (count + 1) ≡ range_with_len 0 count ++ count ∷ []
one_place count =
    let same : ℕ → ℕ = λ n. n in
    sym (map-id (range_with_len 0 (count + 1))) ∙ map-range_with_len_more same 0 count count (zero-add count)
    ∙ ap (λ x. x ++ count ∷ []) (map-id (range_with_len 0 count))

pub sample_bits-more : (scan : Scan) (samples : List ℕ) (count : ℕ)
    → sample_bits scan samples (count + 1) ≡ sample_bits scan samples count ++ difference_bits
    (difference_at scan samples count)
unfolding sample_bits
sample_bits-more scan samples count =
    let f : ℕ → List Bool = λ place. difference_bits (difference_at scan samples place) in
    ap (flat_map f) (one_place count) ∙ flat_map-append f (range_with_len 0 count) (count ∷ [])
    ∙ ap (λ x. flat_map f (range_with_len 0 count) ++ x) (append-nil (f count))

-- the difference of a sample as the code makes it
pub difference_is : (scan : Scan) (samples : List ℕ) (place predicted : ℕ)
    → predicted ≡ modulo (prediction scan samples place)
    → signed ((get_or samples place 0 + (65536 - predicted)) % 65536) ≡ difference_at scan samples place
unfolding difference_at
difference_is scan samples place predicted e = ap (λ p. signed ((get_or samples place 0 + (65536 - p)) % 65536)) e
    ∙ ap signed (modulo-sub (get_or samples place 0) (prediction scan samples place))
