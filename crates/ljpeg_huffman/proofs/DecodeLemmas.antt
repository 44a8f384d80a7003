-- One difference from the bits that are left.
use Rattle.std.proofs.Common.{◌≡◌, ℕ, zero, suc, ◌+◌, ◌-◌, ◌*◌, ◌/◌, ◌^◌, ◌<◌, ◌≤◌, ◌⊎◌, inl, inr, Bool, false, eqb}
use Rattle.std.proofs.Common.{List, [], ◌∷◌, ◌++◌, length, replicate, refl, sym, ap, ap₂, ◌∙◌, subst, arith}
use Rattle.std.proofs.Common.{append_assoc, append-nil, Contains, All, pow_pos, mod-eq_of_lt, length-append, ℤ}
use Rattle.std.proofs.Common.{mul-lt-mul_of_pos_right}
use Rattle.std.proofs.lemmas.List.{length-replicate}
use Rattle.std.proofs.lemmas.List.Elements.{All-contains}
use Rattle.std.proofs.lemmas.Bool.{cases_lt, cond_both, eqb-false}
use Rattle.binary_digits.specs.Digits.{bits_of, number_of}
use Rattle.ljpeg_huffman.specs.Words.{Table, IsPrefix, IsPrefixFree}
use Rattle.ljpeg_huffman.specs.inner.Tables.{high_end}
use Rattle.ljpeg_huffman.specs.Differences.{data_bits, further_bits, difference, SpellsOne, BeginsWithCode, EndsWithin}
use Rattle.ljpeg_huffman.specs.Differences.{HasNoCode}
use Rattle.ljpeg_huffman.specs.inner.Registers.{bits_left, IsWindow}
use Rattle.binary_digits.proofs.DigitLemmas.{length-bits_of, number_of-bits_of, number_of-append, bits_of-split}
use Rattle.binary_digits.proofs.DigitLemmas.{append_same_size, append_shorter}
use Rattle.ljpeg_huffman.proofs.DataLemmas.{left_is}
use Rattle.ljpeg_huffman.proofs.OrderLemmas.{low_end, prefix_range, one_word}

pub further_small : (category : ℕ) → category ≤ 16 → further_bits category ≤ 15
further_small category h =
    cond_both (eqb category 16) 0 category (λ n. n ≤ 15) (λ t. omega arith)
    (λ f. let apart = eqb-false category 16 f in omega arith)

prefix_more : (a b c : List Bool) → IsPrefix a b → IsPrefix a (b ++ c)
prefix_more a b c p = (p.0 ++ c, ap (λ x. x ++ c) p.1 ∙ append_assoc a p.0 c)

prefix_size : (a b : List Bool) → IsPrefix a b → length a ≤ length b
prefix_size a b p = omega (arith, ap length p.1 ∙ length-append a p.0)

-- of two words that begin the same bits, the shorter one begins the longer one
prefix_of_longer : (a b bits : List Bool) → IsPrefix a bits → IsPrefix b bits → length a ≤ length b → IsPrefix a b
prefix_of_longer a b bits pa pb h = append_shorter a b pa.0 pb.0 (sym pa.1 ∙ pb.1) h

-- what a longer word has behind a shorter one
longer : (a b rest : List Bool) → a ≡ b ++ rest → length b < length a
    → (bit : Bool) × (others : List Bool) × (a ≡ b ++ bit ∷ others)
longer a b [] e h = absurd (omega (arith, ap length (e ∙ append-nil b)))
longer a b (bit ∷ others) e h = (bit, others, e)

zeros_number : (size : ℕ) → number_of (replicate size false) ≡ 0
unfolding number_of
zeros_number zero = refl
zeros_number (suc size) = omega (arith, zeros_number size)

module _ (table : Table) (free : IsPrefixFree table) (sizes : All (λ e. length e.0 ≤ 16) table) (held word : ℕ)
    (bytes : List ℕ) (enough : (31 ≤ held) ⊎ (data_bits bytes ≡ [])) (window : ℕ) (w : IsWindow held word window) where
  abbrev kept : List Bool
  kept = bits_of held word

  abbrev ahead : List Bool
  ahead = bits_of 16 window

  kept_size : length kept ≡ held
  kept_size = length-bits_of held word

  ahead_size : length ahead ≡ 16
  ahead_size = length-bits_of 16 window

  all_kept : held < 31 → bits_left held word bytes ≡ kept
  all_kept few =
      elim enough [
        | inl many ↦ absurd (omega arith)
        | inr none ↦ left_is held word bytes ∙ ap (λ x. kept ++ x) none
            ∙ append-nil kept
      ]

  -- the window's words are words of the bits, as far as bits are held
  from_ahead : (a : List Bool) → length a ≤ held → IsPrefix a ahead → IsPrefix a kept
  from_ahead a h p =
      elim (cases_lt held 16) [
        | inl less ↦ prefix_of_longer a kept ahead p (replicate (16 - held) false, w.short less)
            (omega (arith, kept_size))
        | inr more ↦ subst (IsPrefix a) (sym (w.full more)) (prefix_more a ahead (bits_of (held - 16) word) p)
      ]

  to_ahead : (a : List Bool) → length a ≤ 16 → IsPrefix a (bits_left held word bytes) → IsPrefix a ahead
  to_ahead a h p =
      elim (cases_lt held 16) [
        | inl less ↦ subst (IsPrefix a) (sym (w.short less))
            (prefix_more a kept (replicate (16 - held) false) (subst (IsPrefix a) (all_kept (omega arith)) p))
        | inr more ↦
            let long : IsPrefix ahead kept = (bits_of (held - 16) word, w.full more) in
            let whole : IsPrefix ahead (bits_left held word bytes) =
            subst (IsPrefix ahead) (sym (left_is held word bytes))
            (prefix_more ahead kept (data_bits bytes) long) in
            prefix_of_longer a ahead (bits_left held word bytes) p whole (omega (arith, ahead_size))
      ]

  window_number : low_end ahead ≡ window
  window_number =
      let gap : 16 - length ahead ≡ 0 = omega (arith, ahead_size) in
      let value : number_of ahead ≡ window = number_of-bits_of 16 window ∙ mod-eq_of_lt w.small in
      ap₂ (λ n k. n * 2 ^ k) value gap ∙ omega arith

  -- no code word is at the window or above it
  pub no_code : All (λ e. high_end e.0 ≤ window) table → HasNoCode table (bits_left held word bytes)
  no_code below = (
    λ (a, s, listed, p).
        let short = All-contains (λ e. length e.0 ≤ 16) table (a, s) sizes listed in
        let under = All-contains (λ e. high_end e.0 ≤ window) table (a, s) below listed in
        let range = prefix_range a ahead (to_ahead a short p) (omega (arith, ahead_size)) in
        let over = range.1 in
        absurd (omega (arith, under, over, window_number)),
    λ (a, s, listed, cut).
        let bit = cut.0 in
        let rest = cut.1 in
        let whole : a ≡ bits_left held word bytes ++ bit ∷ rest = cut.2 in
        let short = All-contains (λ e. length e.0 ≤ 16) table (a, s) sizes listed in
        let under = All-contains (λ e. high_end e.0 ≤ window) table (a, s) below listed in
        let prefix : a ≡ kept ++ (data_bits bytes ++ bit ∷ rest) =
        whole ∙ ap (λ x. x ++ bit ∷ rest) (left_is held word bytes)
        ∙ append_assoc kept (data_bits bytes) (bit ∷ rest) in
        let size : length a ≡ held + (length (data_bits bytes) + suc (length rest)) =
        ap length prefix ∙ length-append kept (data_bits bytes ++ bit ∷ rest)
        ∙ ap₂ (λ m n. m + n) kept_size (length-append (data_bits bytes) (bit ∷ rest)) in
        let few : held < 16 = omega (arith, size, short) in
        let range = prefix_range kept a (data_bits bytes ++ bit ∷ rest, prefix) short in
        let padded : number_of ahead ≡ number_of kept * 2 ^ (16 - held) =
        ap number_of (w.short few) ∙ number_of-append kept (replicate (16 - held) false)
        ∙ ap₂ (λ m n. number_of kept * 2 ^ m + n) (length-replicate (16 - held) false) (zeros_number (16 - held))
        ∙ omega arith in
        let value : number_of ahead ≡ window = number_of-bits_of 16 window ∙ mod-eq_of_lt w.small in
        let low : low_end kept ≡ window = ap (λ k. number_of kept * 2 ^ (16 - k)) kept_size ∙ sym padded ∙ value in
        let unit = pow_pos (16 - length a) in
        let strict : low_end a < high_end a =
        mul-lt-mul_of_pos_right (let e : number_of a < number_of a + 1 = omega arith in e) unit in
        let lower = range.0 in
        absurd (omega (arith, under, strict, lower, low)),
  )

  module _ (size category : ℕ) (small : size ≤ 16) (known : category ≤ 16)
      (listed : Contains table (bits_of size (window / 2 ^ (16 - size)), category)) where
    abbrev code : List Bool
    code = bits_of size (window / 2 ^ (16 - size))

    code_size : length code ≡ size
    code_size = length-bits_of size (window / 2 ^ (16 - size))

    code_ahead : IsPrefix code ahead
    code_ahead = (
      bits_of (16 - size) window,
      ap (λ n. bits_of n window)
          (let e : 16 ≡ size + (16 - size) = omega arith in e) ∙ bits_of-split size (16 - size) window,
    )

    -- fewer bits are left than the code word has
    cut_code : held < size → EndsWithin table (bits_left held word bytes)
    cut_code few =
        let end = all_kept (omega arith) in
        let zeros : IsPrefix kept ahead = (replicate (16 - held) false, w.short (omega arith)) in
        let inside : IsPrefix kept code =
        prefix_of_longer kept code ahead zeros code_ahead (omega (arith, kept_size, code_size)) in
        let none : ¬ BeginsWithCode table (bits_left held word bytes) = λ (a, s, other, p).
        let here : IsPrefix a kept = subst (IsPrefix a) end p in
        let fewer = prefix_size a kept here in
        let within : IsPrefix a code = subst (IsPrefix a) (sym inside.1) (prefix_more a kept inside.0 here) in
        let same = one_word table free a code s category code other listed within ([], sym (append-nil code)) in
        absurd (omega (arith, fewer, kept_size, code_size, ap length same.0)) in
        let cut : (bit : Bool) × (rest : List Bool) × (code ≡ bits_left held word bytes ++ bit ∷ rest) =
        longer code (bits_left held word bytes) inside.0 (inside.1 ∙ ap (λ x. x ++ inside.0) (sym end))
        (omega (arith, ap length end, kept_size, code_size)) in
        inl (none, (code, category, listed, cut))

    pub ended : held < size + further_bits category → EndsWithin table (bits_left held word bytes)
    ended few =
        elim (cases_lt held size) [
          | inl less ↦ cut_code less
          | inr more ↦
              let f = further_small category known in
              let end = all_kept (omega arith) in
              let prefix = from_ahead code (omega (arith, code_size)) code_ahead in
              let count : held ≡ size + length prefix.0 =
              sym kept_size ∙ ap length prefix.1 ∙ length-append code prefix.0
              ∙ ap (λ n. n + length prefix.0) code_size in
              inr (code, category, listed, (prefix.0, end ∙ prefix.1, omega arith))
        ]

    pub takes : (a b : List Bool) (held' word' extra : ℕ) (value : ℤ) → kept ≡ a ++ b ++ bits_of held' word'
        → length a ≡ size → b ≡ bits_of (further_bits category) extra → extra < 2 ^ further_bits category
        → value ≡ difference category extra
        → (taken : List Bool) × (bits_left held word bytes ≡ taken ++ bits_left held' word' bytes)
        × SpellsOne table taken value
    takes a b held' word' extra value parts first second fits stands =
        let count : held ≡ size + length (b ++ bits_of held' word') =
        sym kept_size ∙ ap length (parts ∙ append_assoc a b (bits_of held' word'))
        ∙ length-append a (b ++ bits_of held' word') ∙ ap (λ n. n + length (b ++ bits_of held' word')) first in
        let prefix = from_ahead code (omega (arith, code_size)) code_ahead in
        let grouped : kept ≡ a ++ (b ++ bits_of held' word') = parts ∙ append_assoc a b (bits_of held' word') in
        let same = append_same_size a code (b ++ bits_of held' word') prefix.0 (sym grouped ∙ prefix.1)
        (first ∙ sym code_size) in
        let whole : bits_left held word bytes ≡ (a ++ b) ++ bits_left held' word' bytes =
        left_is held word bytes ∙ ap (λ x. x ++ data_bits bytes) parts
        ∙ append_assoc (a ++ b) (bits_of held' word') (data_bits bytes)
        ∙ ap (λ x. (a ++ b) ++ x) (sym (left_is held' word' bytes)) in (
          a ++ b,
          whole,
          record {
            word = code;
            category = category;
            extra = extra;
            listed = listed;
            spelled = ap₂ (λ x y. x ++ y) same.0 second;
            extra_fits = fits;
            stands_for = stands;
          },
        )

-- the same of equal bits
pub ended_at : (bits : List Bool) (table : Table) → IsPrefixFree table → All (λ e. length e.0 ≤ 16) table
    → (held word : ℕ) (bytes : List ℕ) → (31 ≤ held) ⊎ (data_bits bytes ≡ []) → (window : ℕ) → IsWindow held word window
    → (size category : ℕ) → size ≤ 16 → category ≤ 16
    → Contains table (bits_of size (window / 2 ^ (16 - size)), category) → held < size + further_bits category
    → bits_left held word bytes ≡ bits → EndsWithin table bits
ended_at bits table free sizes held word bytes enough window w size category small known listed few same =
    subst (EndsWithin table) same
    (ended table free sizes held word bytes enough window w size category small known listed few)

-- the three outcomes exclude one another
pub not_ended : (table : Table) → IsPrefixFree table → (bits taken after : List Bool) (value : ℤ)
    → bits ≡ taken ++ after → SpellsOne table taken value → EndsWithin table bits → ⊥
not_ended table free bits taken after value e s end =
    let begins : bits ≡ s.word ++ (bits_of (further_bits s.category) s.extra ++ after) =
    e ∙ ap (λ x. x ++ after) s.spelled ∙ append_assoc s.word _ after in
    elim end [
      | inl cut ↦ cut.0 (s.word, s.category, s.listed, (bits_of (further_bits s.category) s.extra ++ after, begins))
      | inr (a, t, other, (rest, prefix, few)) ↦
          let same = one_word table free s.word a s.category t bits s.listed other
          (bits_of (further_bits s.category) s.extra ++ after, begins) (rest, prefix) in
          let tails = append_same_size s.word a (bits_of (further_bits s.category) s.extra ++ after) rest
          (sym begins ∙ prefix) (ap length same.0) in
          let size : length rest ≡ further_bits s.category + length after =
          ap length (sym tails.1) ∙ length-append (bits_of (further_bits s.category) s.extra) after
          ∙ ap (λ n. n + length after) (length-bits_of (further_bits s.category) s.extra) in
          let less : length rest < further_bits s.category =
          subst (λ k. length rest < further_bits k) (sym same.1) few in
          absurd (omega (arith, size, less))
    ]

pub not_no_code : (table : Table) (bits taken after : List Bool) (value : ℤ) → bits ≡ taken ++ after
    → SpellsOne table taken value → HasNoCode table bits → ⊥
not_no_code table bits taken after value e s none =
    none.0 (
      s.word,
      s.category,
      s.listed,
      (
        bits_of (further_bits s.category) s.extra ++ after,
        e ∙ ap (λ x. x ++ after) s.spelled
            ∙ append_assoc s.word _ after,
      ),
    )

pub ended_or_no_code : (table : Table) (bits : List Bool) → EndsWithin table bits → HasNoCode table bits → ⊥
ended_or_no_code table bits end none =
    elim end [
      | inl cut ↦ none.1 cut.1
      | inr (a, t, other, (rest, prefix, few)) ↦ none.0 (a, t, other, (rest, prefix))
    ]
