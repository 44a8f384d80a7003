-- The computed answer of a stream is the one that the stream definition allows.
use Rattle.std.proofs.Common.{◌≡◌, ℕ, zero, suc, ◌^◌, ◌<◌, ◌≤◌, ◌⊎◌, ◌||◌, inl, inr, Bool, true, false, cond, ltb, List}
use Rattle.std.proofs.Common.{[], ◌∷◌, ◌++◌, length, take, drop, get_or, Contains, ℤ, Option, None, Some, Result, Ok}
use Rattle.std.proofs.Common.{Err, refl, sym, ap, ap₂, ◌∙◌, arith, append_assoc, lt-ltb, le-ltb, mod-eq_of_lt}
use Rattle.std.proofs.Common.{length-append}
use Rattle.std.specs.List.{list_any}
use Rattle.std.proofs.lemmas.Bool.{cond-true, cond-false}
use Rattle.std.proofs.lemmas.List.{drop_at, take_at}
use Rattle.binary_digits.specs.Digits.{bits_of, number_of}
use Rattle.binary_digits.proofs.DigitLemmas.{append_same_size, length-bits_of, number_of-bits_of}
use Rattle.ljpeg_huffman.specs.Words.{Table, IsPrefixFree}
use Rattle.ljpeg_huffman.specs.Differences.{BeginsWithCode, IsCutCode, IsRefused, SpellsOne, Spells, data_bits}
use Rattle.ljpeg_huffman.specs.Differences.{difference, further_bits}
use Rattle.ljpeg_huffman.specs.declared.bits.BitFault.{BitFault}
use Rattle.ljpeg_huffman.specs.declared.bits.BitFault.TheVariants as bit
use Rattle.ljpeg_huffman.proofs.OrderLemmas.{one_word}
use Rattle.ljpeg_predict.specs.Chain.{◌>>=◌}
use Rattle.ljpeg_predict.specs.Decoded.{Code, Taken, behind, before, code_in, code_or, decoded, difference_in}
use Rattle.ljpeg_predict.specs.Decoded.{differences_in, goes_on, rebuilt_behind, samples_of, taken, taken_or, then_more}
use Rattle.ljpeg_predict.specs.Decoded.{told}
use Rattle.ljpeg_predict.specs.Headers.{headers_of, scan_in, sized}
use Rattle.ljpeg_predict.specs.Scans.{Scan, row_length, table_at}
use Rattle.ljpeg_predict.specs.Streams.{Answers, IsAnswer, IsCutShort, IsDecoded}
use Rattle.ljpeg_predict.specs.declared.JpegFault.{JpegFault}
use Rattle.ljpeg_predict.specs.declared.JpegFault.TheVariants as fault
use Rattle.ljpeg_predict.proofs.DecodeLemmas.{some_width}
use Rattle.ljpeg_predict.proofs.FreeLemmas.{bind_ok, stream_free}
use Rattle.ljpeg_predict.proofs.OneAnswerLemmas.{sized_is}
use Rattle.ljpeg_predict.proofs.RebuiltLemmas.{one_list_of_samples, rebuilt_is}

-- ---- words

behind_word : (word rest : List Bool) → behind word (word ++ rest) ≡ Some rest
behind_word [] rest = refl
behind_word (true ∷ word) rest = behind_word word rest
behind_word (false ∷ word) rest = behind_word word rest

word_before : (word bits rest : List Bool) → behind word bits ≡ Some rest → bits ≡ word ++ rest
word_before [] bits rest e = cc
word_before (d ∷ word) [] rest e = absurd (cc)
word_before (true ∷ word) (true ∷ bits) rest e = ap (λ x. true ∷ x) (word_before word bits rest e)
word_before (true ∷ word) (false ∷ bits) rest e = absurd (cc)
word_before (false ∷ word) (true ∷ bits) rest e = absurd (cc)
word_before (false ∷ word) (false ∷ bits) rest e = ap (λ x. false ∷ x) (word_before word bits rest e)

-- ---- entries of a table

at_either : {X : Type 0} (e x : X) (t : List X) (k : ℕ) → k < length (e ∷ t) → get_or (e ∷ t) k x ≡ x
    → (e ≡ x) ⊎ Contains t x
at_either e x t zero h is = inl is
at_either e x t (suc k) h is = inr (k, omega arith, is)

either : {X : Type 0} (e x : X) (t : List X) → Contains (e ∷ t) x → (e ≡ x) ⊎ Contains t x
either e x t c = at_either e x t c.0 c.1 c.2

later : {X : Type 0} (e x : X) (t : List X) → Contains t x → Contains (e ∷ t) x
later e x t c = (suc c.0, omega (arith, c.1), c.2)

-- a code word that was found, and the bits behind it
abbrev IsFound : Table → List Bool → Code → Type 0
IsFound table bits code = (word : List Bool) × Contains table (word, code.category) × (bits ≡ word ++ code.rest)

found_or : (entry : List Bool × ℕ) (table : Table) (bits : List Bool) (code : Code) (o : Option (List Bool))
    → behind entry.0 bits ≡ o → code_or entry.1 o (code_in table bits) ≡ Some code
    → (code_in table bits ≡ Some code → IsFound table bits code) → IsFound (entry ∷ table) bits code
found_or entry table bits code (Some rest) is e more =
    let same : record { category = entry.1; rest = rest } ≡ code = cc in (
      entry.0,
      (0, omega arith, ap (λ (c : Code). (entry.0, c.category)) same),
      word_before entry.0 bits rest is ∙ ap
          (λ (c : Code). entry.0 ++ c.rest) same,
    )
found_or entry table bits code None is e more = let found =
    more e in (found.0, later entry (found.0, code.category) table found.1, found.2)

found_code : (table : Table) (bits : List Bool) (code : Code) → code_in table bits ≡ Some code → IsFound table bits code
unfolding code_in
found_code [] bits code e = absurd (cc)
found_code (entry ∷ table) bits code e =
    found_or entry table bits code (behind entry.0 bits) refl e (found_code table bits code)

none_or : (entry : List Bool × ℕ) (table : Table) (bits : List Bool) (o : Option (List Bool)) → behind entry.0 bits ≡ o
    → code_or entry.1 o (code_in table bits) ≡ None → BeginsWithCode (entry ∷ table) bits
    → (code_in table bits ≡ None → BeginsWithCode table bits → ⊥) → ⊥
none_or entry table bits (Some rest) is e b more = absurd (cc)
none_or entry table bits None is e b more =
    elim (either entry (b.0, b.1) table b.2) [
      | inl here ↦
          let prefix : behind entry.0 bits ≡ Some b.3.0 =
          ap (λ (x : List Bool × ℕ). behind x.0 bits) here ∙ ap (behind b.0) b.3.1 ∙ behind_word b.0 b.3.0 in
          let clash : None ≡ Some b.3.0 = sym is ∙ prefix in
          absurd (cc)
      | inr there ↦ more e (b.0, b.1, there, b.3)
    ]

none_found : (table : Table) (bits : List Bool) → code_in table bits ≡ None → BeginsWithCode table bits → ⊥
unfolding code_in
none_found [] bits e b = absurd (omega (arith, b.2.1))
none_found (entry ∷ table) bits e b = none_or entry table bits (behind entry.0 bits) refl e b (none_found table bits)

abbrev is_cut : Table → List Bool → Bool
is_cut table bits = list_any (λ entry. goes_on (behind bits entry.0)) table

or_right : (a b : Bool) → b ≡ true → (a || b) ≡ true
or_right true b e = refl
or_right false b e = e

cut_is : (table : Table) (bits : List Bool) → IsCutCode table bits → is_cut table bits ≡ true
cut_is [] bits c = absurd (omega (arith, c.2.1))
cut_is (entry ∷ table) bits c =
    elim (either entry (c.0, c.1) table c.2) [
      | inl here ↦
          let more : behind bits entry.0 ≡ Some (c.3.0 ∷ c.3.1) =
          ap (λ (x : List Bool × ℕ). behind bits x.0) here ∙ ap (behind bits) c.3.2
          ∙ behind_word bits (c.3.0 ∷ c.3.1) in
          ap (λ o. goes_on o || is_cut table bits) more
      | inr there ↦ or_right (goes_on (behind bits entry.0)) (is_cut table bits)
          (cut_is table bits (c.0, c.1, there, c.3))
    ]

cut_or : (entry : List Bool × ℕ) (table : Table) (bits : List Bool) (o : Option (List Bool)) → behind bits entry.0 ≡ o
    → (goes_on o || is_cut table bits) ≡ true → (is_cut table bits ≡ true → IsCutCode table bits)
    → IsCutCode (entry ∷ table) bits
cut_or entry table bits (Some (digit ∷ word)) is e more =
    (entry.0, entry.1, (0, omega arith, refl), (digit, word, word_before bits entry.0 (digit ∷ word) is))
cut_or entry table bits (Some []) is e more = let cut =
    more e in (cut.0, cut.1, later entry (cut.0, cut.1) table cut.2, cut.3)
cut_or entry table bits None is e more = let cut =
    more e in (cut.0, cut.1, later entry (cut.0, cut.1) table cut.2, cut.3)

is_cut_code : (table : Table) (bits : List Bool) → is_cut table bits ≡ true → IsCutCode table bits
is_cut_code [] bits e = absurd (cc)
is_cut_code (entry ∷ table) bits e = cut_or entry table bits (behind bits entry.0) refl e (is_cut_code table bits)

not_cut : (table : Table) (bits : List Bool) → (¬ IsCutCode table bits) → is_cut table bits ≡ false
not_cut table bits none = by (is_cut table bits) refl
  where
    by : (b : Bool) → is_cut table bits ≡ b → b ≡ false
    by true e = absurd (none (is_cut_code table bits e))
    by false e = refl

no_code_in : (table : Table) (bits : List Bool) → (¬ BeginsWithCode table bits) → code_in table bits ≡ None
no_code_in table bits none = by (code_in table bits) refl
  where
    by : (o : Option Code) → code_in table bits ≡ o → o ≡ None
    by (Some code) is = let found =
        found_code table bits code is in absurd (none (found.0, code.category, found.1, (code.rest, found.2)))
    by None is = refl

-- the code word that the bits begin with
module _ (table : Table) (free : IsPrefixFree table) (word rest bits : List Bool) (category : ℕ)
    (listed : Contains table (word, category)) (prefix : bits ≡ word ++ rest) where
  the_code : code_in table bits ≡ Some (record { category = category; rest = rest })
  the_code = by (code_in table bits) refl
    where
      by : (o : Option Code) → code_in table bits ≡ o → o ≡ Some (record { category = category; rest = rest })
      by (Some code) is =
          let found = found_code table bits code is in
          let same = one_word table free found.0 word code.category category bits found.1 listed (code.rest, found.2)
          (rest, prefix) in
          let tails = append_same_size found.0 word code.rest rest (sym found.2 ∙ prefix) (ap length same.0) in
          λ i. Some (record { category = same.1 i; rest = tails.1 i })
      by None is = absurd (none_found table bits is (word, category, listed, (rest, prefix)))

-- ---- differences

taken_prefix : (category extra : ℕ) (more : List Bool) → extra < 2 ^ further_bits category
    → taken (record { category = category; rest = bits_of (further_bits category) extra ++ more })
    ≡ Ok (record { value = difference category extra; rest = more })
taken_prefix category extra more fits =
    let k = further_bits category in
    let further = bits_of k extra in
    let size = length-bits_of k extra in
    let enough : k ≤ length (further ++ more) = omega (arith, length-append further more, size) in
    let number : number_of (take k (further ++ more)) ≡ extra =
    ap number_of (take_at further more k size) ∙ number_of-bits_of k extra ∙ mod-eq_of_lt fits in
    let value : Taken = record {
      value = difference category (number_of (take k (further ++ more)));
      rest = drop k (further ++ more);
    } in
    let answer : Result Taken BitFault = Ok value in
    let e : cond (ltb (length (further ++ more)) k) (Err bit.Ended) answer ≡ answer =
    cond-false _ _ _ (le-ltb (length (further ++ more)) k enough) in
    e ∙ ap₂ (λ (n : ℕ) (rest : List Bool). Ok (record { value = difference category n; rest = rest })) number
    (drop_at further more k size)

next_is : (table : Table) → IsPrefixFree table → (first more : List Bool) (value : ℤ) → SpellsOne table first value
    → difference_in table (first ++ more) ≡ Ok (record { value = value; rest = more })
unfolding difference_in
next_is table free first more value s =
    let further = bits_of (further_bits s.category) s.extra in
    let prefix : first ++ more ≡ s.word ++ (further ++ more) =
    ap (λ x. x ++ more) s.spelled ∙ append_assoc s.word further more in
    ap (taken_or (is_cut table (first ++ more)))
    (the_code table free s.word (further ++ more) (first ++ more) s.category s.listed prefix)
    ∙ taken_prefix s.category s.extra more s.extra_fits
    ∙ ap (λ (v : ℤ). Ok (record { value = v; rest = more })) (sym s.stands_for)

none_is : (table : Table) → IsPrefixFree table → (bits : List Bool) (reason : BitFault) → IsRefused table bits reason
    → difference_in table bits ≡ Err reason
unfolding difference_in
none_is table free bits bit.Ended refused =
    elim refused [
      | inl within ↦ ap₂ taken_or (cut_is table bits within.1) (no_code_in table bits within.0)
      | inr (word, category, listed, (rest, prefix, few)) ↦
          let answer : Result Taken BitFault =
          Ok (record {
            value = difference category (number_of (take (further_bits category) rest));
            rest = drop (further_bits category) rest;
          }) in
          let short : cond (ltb (length rest) (further_bits category)) (Err bit.Ended) answer ≡ Err bit.Ended =
          cond-true _ _ _ (lt-ltb (length rest) (further_bits category) few) in
          ap (taken_or (is_cut table bits)) (the_code table free word rest bits category listed prefix) ∙ short
    ]
none_is table free bits bit.NoCode refused =
    ap₂ taken_or (not_cut table bits refused.1) (no_code_in table bits refused.0)

spelled_in : (values : List ℤ) (tables : ℕ → Table) → ((place : ℕ) → IsPrefixFree (tables place))
    → (prefix rest : List Bool) → Spells tables prefix values
    → differences_in tables (length values) (prefix ++ rest) ≡ Ok values
unfolding differences_in
spelled_in [] tables free prefix rest s = refl
spelled_in (value ∷ values) tables free prefix rest s =
    let parts : prefix ++ rest ≡ s.0 ++ (s.1 ++ rest) = ap (λ x. x ++ rest) s.2 ∙ append_assoc s.0 s.1 rest in
    ap (λ r. then_more r (differences_in (λ place. tables (suc place)) (length values)))
    (ap (difference_in (tables 0)) parts ∙ next_is (tables 0) (free 0) s.0 (s.1 ++ rest) value s.3)
    ∙ ap (before value) (spelled_in values (λ place. tables (suc place)) (λ place. free (suc place)) s.1 rest s.4)

refused_in : (values : List ℤ) (tables : ℕ → Table) → ((place : ℕ) → IsPrefixFree (tables place))
    → (prefix rest : List Bool) (want : ℕ) (reason : BitFault) → Spells tables prefix values → length values < want
    → IsRefused (tables (length values)) rest reason → differences_in tables want (prefix ++ rest) ≡ Err reason
unfolding differences_in
refused_in values tables free prefix rest zero reason s few refused = absurd (omega arith)
refused_in [] tables free prefix rest (suc want) reason s few refused =
    ap (λ r. then_more r (differences_in (λ place. tables (suc place)) want))
    (ap (λ x. difference_in (tables 0) (x ++ rest)) s ∙ none_is (tables 0) (free 0) rest reason refused)
refused_in (value ∷ values) tables free prefix rest (suc want) reason s few refused =
    let parts : prefix ++ rest ≡ s.0 ++ (s.1 ++ rest) = ap (λ x. x ++ rest) s.2 ∙ append_assoc s.0 s.1 rest in
    ap (λ r. then_more r (differences_in (λ place. tables (suc place)) want))
    (ap (difference_in (tables 0)) parts ∙ next_is (tables 0) (free 0) s.0 (s.1 ++ rest) value s.3)
    ∙ ap (before value) (refused_in values (λ place. tables (suc place))
    (λ place. free (suc place)) s.1 rest want reason s.4 (omega (arith, few)) refused)

-- ---- streams

module _ (scan : Scan) (free : (place : ℕ) → IsPrefixFree (table_at scan place)) (want : ℕ)
    (width : 0 < row_length scan) where
  abbrev of_scan : Result (List ℕ) JpegFault
  of_scan = samples_of scan (differences_in (table_at scan) want (data_bits scan.bytes))

  decoded_is : (samples : List ℕ) → IsDecoded scan want samples → of_scan ≡ Ok samples
  decoded_is samples d =
      ap (samples_of scan) (
      ap₂ (differences_in (table_at scan)) (sym d.enough) d.begins.parts
      ∙ spelled_in d.differences (table_at scan) free d.begins.taken d.rest d.begins.spelled
      )
      ∙ ap (λ xs. Ok xs) (one_list_of_samples scan width d.differences (rebuilt_behind scan [] d.differences) samples
      (rebuilt_is scan width d.differences) d.rebuilt)

  cut_short_is : (reason : BitFault) → IsCutShort scan want reason
      → differences_in (table_at scan) want (data_bits scan.bytes) ≡ Err reason
  cut_short_is reason c =
      ap (differences_in (table_at scan) want) c.begins.parts
      ∙ refused_in c.differences (table_at scan) free c.begins.taken c.rest want reason c.begins.spelled c.few c.refused

  answer_is : (result : Result (Unit {0}) JpegFault) (samples : List ℕ) → Answers (Ok scan) want result samples
      → of_scan ≡ told result samples
  answer_is (Ok none) samples a = decoded_is samples a
  answer_is (Err fault.Ended) samples a = ap (samples_of scan) (cut_short_is bit.Ended a)
  answer_is (Err fault.NoCode) samples a = ap (samples_of scan) (cut_short_is bit.NoCode a)
  answer_is (Err _) samples a = absurd a

at_scan : (bytes : List ℕ) (want : ℕ) (answer : Result Scan JpegFault) → scan_in bytes want ≡ answer
    → (result : Result (Unit {0}) JpegFault) (samples : List ℕ) → 0 < want → Answers answer want result samples
    → decoded bytes want ≡ told result samples
unfolding decoded
at_scan bytes want (Err f) is result samples some a =
    ap (λ r. r >>= (λ scan. samples_of scan (differences_in (table_at scan) want (data_bits scan.bytes)))) is
    ∙ sym (ap (λ r. told r samples) a)
at_scan bytes want (Ok scan) is result samples some a =
    let t = bind_ok (headers_of bytes) (sized want) scan is in
    let same = sized_is want t.0 scan t.2 in
    let free = stream_free bytes scan (t.1 ∙ ap Ok same.0) in
    let width = some_width scan.lines (row_length scan) want some (sym same.1) in
    ap (λ r. r >>= (λ scan. samples_of scan (differences_in (table_at scan) want (data_bits scan.bytes)))) is
    ∙ answer_is scan free want width result samples a

pub answer_is_decoded : (bytes : List ℕ) (want : ℕ) (result : Result (Unit {0}) JpegFault) (samples : List ℕ) → 0 < want
    → IsAnswer bytes want result samples → decoded bytes want ≡ told result samples
answer_is_decoded bytes want result samples some a = at_scan bytes want (scan_in bytes want) refl result samples some a
