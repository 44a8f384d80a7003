-- The encoder's stream is decoded to the samples.
use Rattle.std.proofs.Common.{◌≡◌, ◌≢◌, ℕ, zero, suc, ◌+◌, ◌-◌, ◌*◌, ◌%◌, ◌^◌, ◌<◌, ◌≤◌, inl, inr, true, cond, ltb, ℤ}
use Rattle.std.proofs.Common.{pos, negsuc, ◌+ℤ◌, ◌-ℤ◌, List, [], ◌∷◌, ◌++◌, length, map, get_or, replicate, All}
use Rattle.std.proofs.Common.{Contains, Ok, unsigned_abs, refl, sym, ap, ap₂, ◌∙◌, subst, arith, append_assoc, ne_eqb}
use Rattle.std.proofs.Common.{eq-eqb, add-one, zero-add, pow_pos, pow-suc}
use Rattle.std.specs.Int.Count.{count_leading_zeros}
use Rattle.std.specs.List.{range_with_len}
use Rattle.std.proofs.lemmas.Bool.{cases_lt, cases_eq, cond-true, cond-false, lt-ltb, le-ltb}
use Rattle.std.proofs.lemmas.Int.{ints}
use Rattle.std.proofs.lemmas.List.Elements.{Contains-get_or}
use Rattle.std.proofs.lemmas.List.FromFn.{get_or-map-range_with_len, length-map-range_with_len, map-range_with_len_more}
use Rattle.binary_digits.specs.Digits.{byte_bits}
use Rattle.binary_digits.proofs.DigitLemmas.{bits_of-zero}
use Rattle.ljpeg_huffman.specs.Words.{code_words, words_from, words_of_length}
use Rattle.ljpeg_huffman.specs.Differences.{SpellsOne, Spells, data_bits, difference, modulo, unstuffed}
use Rattle.ljpeg_huffman.proofs.DataLemmas.{unstuffed-plain, unstuffed-stuffed, unstuffed-marker}
use Rattle.ljpeg_huffman.proofs.SpellLemmas.{Spells-push}
use Rattle.ljpeg_predict.specs.Headers.{headers_of}
use Rattle.ljpeg_predict.specs.Encoding.{IsStream, category_of, code_word, difference_at, difference_bits}
use Rattle.ljpeg_predict.specs.Encoding.{encoder_table, head, sample_bits, signed, stuffed, written_scan}
use Rattle.ljpeg_predict.specs.Prediction.{IsRebuilt, prediction}
use Rattle.ljpeg_predict.specs.Scans.{Scan, sample_count, table_at}
use Rattle.ljpeg_predict.specs.Streams.{IsAnswer, IsDecoded}
use Rattle.ljpeg_predict.specs.declared.scan.Predictor.{Predictor}
use Rattle.ljpeg_predict.proofs.AnswerLemmas.{answer_at, sized_so}
use Rattle.ljpeg_predict.proofs.EncodeLemmas.{HasDigits, magnitude_high, magnitude_low, sample_bits-more}
use Rattle.ljpeg_predict.proofs.EncodeLemmas.{sample_bits-none, signed_digits, signed_high, signed_low}
use Rattle.ljpeg_predict.proofs.HeadLemmas.{written_headers}
use Rattle.ljpeg_predict.proofs.ModuloLemmas.{modulo-add-modulo, modulo_below, modulo_is}

-- ---- the table

entry : (c : ℕ) → c < 17 → get_or encoder_table c ([], 0) ≡ (code_word c, c)
unfolding encoder_table code_words words_from words_of_length
entry zero h = refl
entry (suc zero) h = refl
entry (suc (suc zero)) h = refl
entry (suc (suc (suc zero))) h = refl
entry (suc (suc (suc (suc zero)))) h = refl
entry (suc (suc (suc (suc (suc zero))))) h = refl
entry (suc (suc (suc (suc (suc (suc zero)))))) h = refl
entry (suc (suc (suc (suc (suc (suc (suc zero))))))) h = refl
entry (suc (suc (suc (suc (suc (suc (suc (suc zero)))))))) h = refl
entry (suc (suc (suc (suc (suc (suc (suc (suc (suc zero))))))))) h = refl
entry (suc (suc (suc (suc (suc (suc (suc (suc (suc (suc zero)))))))))) h = refl
entry (suc (suc (suc (suc (suc (suc (suc (suc (suc (suc (suc zero))))))))))) h = refl
entry (suc (suc (suc (suc (suc (suc (suc (suc (suc (suc (suc (suc zero)))))))))))) h = refl
entry (suc (suc (suc (suc (suc (suc (suc (suc (suc (suc (suc (suc (suc zero))))))))))))) h = refl
entry (suc (suc (suc (suc (suc (suc (suc (suc (suc (suc (suc (suc (suc (suc zero)))))))))))))) h = refl
entry (suc (suc (suc (suc (suc (suc (suc (suc (suc (suc (suc (suc (suc (suc (suc zero))))))))))))))) h = refl
entry (suc (suc (suc (suc (suc (suc (suc (suc (suc (suc (suc (suc (suc (suc (suc (suc zero)))))))))))))))) h = refl
entry (suc (suc (suc (suc (suc (suc (suc (suc (suc (suc (suc (suc (suc (suc (suc (suc (suc c))))))))))))))))) h =
    absurd (omega arith)

entries : length encoder_table ≡ 17
unfolding encoder_table code_words words_from words_of_length
entries = refl

listed : (c : ℕ) → c ≤ 16 → Contains encoder_table (code_word c, c)
listed c h = subst (Contains encoder_table) (entry c (omega arith))
    (Contains-get_or encoder_table c ([], 0) (omega (arith, entries)))

-- ---- one difference

-- what the further bits of a difference stand for
stands : (c extra : ℕ) (d : ℤ) → c ≢ 16 → extra < 2 ^ c
    → cond (ltb (2 * extra) (2 ^ c)) (pos extra -ℤ pos (2 ^ c - 1)) (pos extra) ≡ d → difference c extra ≡ d
stands c extra d apart fits e = cond-false _ _ _ (ne_eqb c 16 apart) ∙ e

none_small : (c : ℕ) → 2 ^ c ≤ 1 → c ≡ 0
none_small zero h = refl
none_small (suc c) h = let some = pow_pos c in let two = pow-suc 2 c in absurd (omega (arith, some, two))

even_power : (c n : ℕ) → 0 < n → 2 ^ c ≤ 2 * n + 1 → 2 ^ c ≤ 2 * n
even_power zero n some h = omega arith
even_power (suc c) n some h = let two = pow-suc 2 c in omega (arith, two)

spelled : (d : ℤ) → HasDigits (unsigned_abs d) (category_of d) → category_of d ≢ 16
    → SpellsOne encoder_table (difference_bits d) d
unfolding difference_bits
spelled (pos n) h apart = record {
  word = code_word (category_of (pos n));
  category = category_of (pos n);
  extra = n;
  listed = listed (category_of (pos n)) h.few;
  spelled = refl;
  extra_fits = subst (λ k. n < 2 ^ k) (sym (cond-false _ _ _ (ne_eqb (category_of (pos n)) 16 apart))) h.above;
  stands_for = sym (stands (category_of (pos n)) n (pos n) apart h.above (elim (cases_lt 0 n) [
    | inl some ↦ cond-false _ _ _
        (le-ltb (2 * n) (2 ^ category_of (pos n)) (even_power (category_of (pos n)) n some h.below))
    | inr none ↦
        let zeros : category_of (pos n) ≡ 0 = none_small (category_of (pos n)) (omega (arith, h.below)) in
        let one : 2 ^ category_of (pos n) ≡ 1 = ap (λ k. 2 ^ k) zeros in
        cond-true _ _ _ (lt-ltb (2 * n) (2 ^ category_of (pos n)) (omega (arith, one))) ∙ omega (arith, ints, one)
  ]));
}
spelled (negsuc k) h apart =
    let c = category_of (negsuc k) in
    let extra = 2 ^ c - 1 - suc k in
    let above : suc k < 2 ^ c = h.above in
    let below : 2 ^ c ≤ 2 * suc k + 1 = h.below in
    let fits : extra < 2 ^ c = omega (arith, above) in
    record {
      word = code_word c;
      category = c;
      extra = extra;
      listed = listed c h.few;
      spelled = refl;
      extra_fits = subst (λ n. extra < 2 ^ n) (sym (cond-false _ _ _ (ne_eqb c 16 apart))) fits;
      stands_for = sym (stands c extra (negsuc k) apart fits
          (cond-true _ _ _ (lt-ltb (2 * extra) (2 ^ c) (omega (arith, above, below))) ∙ omega (arith, ints, above)));
    }

-- category 16 is the difference 32768
largest : (d : ℤ) → d ≡ pos 32768 → SpellsOne encoder_table (difference_bits d) d
unfolding difference_bits count_leading_zeros
largest d e = subst (λ z. SpellsOne encoder_table (difference_bits z) z) (sym e) (record {
  word = code_word 16;
  category = 16;
  extra = 0;
  listed = listed 16 (omega arith);
  spelled = ap (λ x. code_word 16 ++ x) (bits_of-zero 32768 ∙ sym (bits_of-zero 0));
  extra_fits = omega arith;
  stands_for = refl;
})

one_spelled : (m : ℕ) → m < 65536 → SpellsOne encoder_table (difference_bits (signed m)) (signed m)
one_spelled m h =
    elim (cases_eq m 32768) [
      | inl most ↦ largest (signed m) (signed_low m (omega arith) ∙ ap pos most)
      | inr less ↦
          let d = signed_digits m h in
          let size : unsigned_abs (signed m) < 32768 = elim (cases_lt 32768 m) [
            | inl high ↦ omega (arith, magnitude_high m high h)
            | inr low ↦ omega (arith, magnitude_low m low)
          ] in
          spelled (signed m) d (λ e. let power : 2 ^ category_of (signed m) ≡ 65536 = ap (λ k. 2 ^ k) e in
          absurd (omega (arith, power, d.below)))
    ]

-- ---- all differences

modulo-signed : (m : ℕ) → m < 65536 → modulo (signed m) ≡ m
modulo-signed m h =
    elim (cases_lt 32768 m) [
      | inl high ↦ ap modulo (signed_high m high h) ∙ modulo_is (negsuc (65535 - m)) 1 m (omega (arith, ints))
          ∙ omega arith
      | inr low ↦ ap modulo (signed_low m low) ∙ omega arith
    ]

module _ (precision lines columns : ℕ) (predictor : Predictor) (bytes samples : List ℕ) where
  abbrev told : Scan
  told = written_scan precision lines columns predictor bytes

  abbrev plain : Scan
  plain = written_scan precision lines columns predictor []

  same_prediction : (place : ℕ) → prediction plain samples place ≡ prediction told samples place
  unfolding prediction
  same_prediction place = refl

  one_table : (place : ℕ) → table_at told place ≡ encoder_table
  one_table place = let first : place % 1 ≡ 0 = omega arith in ap (λ k. get_or (encoder_table ∷ []) k []) first

  abbrev differences : ℕ → List ℤ
  differences count = map (difference_at plain samples) (range_with_len 0 count)

  difference_spelled : (place : ℕ)
      → SpellsOne encoder_table (difference_bits (difference_at plain samples place))
      (difference_at plain samples place)
  unfolding difference_at
  difference_spelled place =
      one_spelled (modulo (pos (get_or samples place 0) -ℤ prediction plain samples place)) (modulo_below _)

  pub all_spelled : (count : ℕ) → Spells (table_at told) (sample_bits plain samples count) (differences count)
  all_spelled zero = sample_bits-none plain samples
  all_spelled (suc count) =
      let next = add-one count in
      let size = length-map-range_with_len (difference_at plain samples) 0 count in
      let one = subst (λ t. SpellsOne t (difference_bits (difference_at plain samples count))
      (difference_at plain samples count)) (sym (one_table (length (differences count))))
      (difference_spelled count) in
      let values : differences (count + 1) ≡ differences count ++ difference_at plain samples count ∷ [] =
      map-range_with_len_more (difference_at plain samples) 0 count count (zero-add count) in
      subst (λ n. Spells (table_at told) (sample_bits plain samples n) (differences n)) next
      (subst (λ bits. Spells (table_at told) bits (differences (count + 1)))
      (sym (sample_bits-more plain samples count))
      (subst (λ ds. Spells (table_at told)
      (sample_bits plain samples count ++ difference_bits (difference_at plain samples count)) ds) (sym values)
      (Spells-push (differences count) (table_at told) (sample_bits plain samples count)
      (difference_bits (difference_at plain samples count)) (difference_at plain samples count)
      (all_spelled count) one)))

  -- a sample is its prediction and its difference
  given_back : (place : ℕ) → get_or samples place 0 < 65536
      → get_or samples place 0 ≡ modulo (prediction told samples place +ℤ difference_at plain samples place)
  unfolding difference_at
  given_back place small =
      let s = get_or samples place 0 in
      let z = prediction plain samples place in
      let m = modulo (pos s -ℤ z) in
      let below = modulo_below (pos s -ℤ z) in
      let whole : z +ℤ (pos s -ℤ z) ≡ pos s = omega (arith, ints) in
      let same : s ≡ s % 65536 = omega arith in
      same ∙ ap modulo (sym whole) ∙ sym (modulo-add-modulo z (pos s -ℤ z))
      ∙ ap (λ n. modulo (z +ℤ pos n)) (sym (modulo-signed m below)) ∙ modulo-add-modulo z (signed m)
      ∙ ap (λ p. modulo (p +ℤ signed m)) (same_prediction place)

  pub all_rebuilt : ((place : ℕ) → place < length samples → get_or samples place 0 < 65536)
      → IsRebuilt told (differences (length samples)) samples
  all_rebuilt small = record {
    lengths = sym (length-map-range_with_len (difference_at plain samples) 0 (length samples));
    each = λ place h. given_back place (small place h) ∙ ap (λ d. modulo (prediction told samples place +ℤ d))
        (sym (get_or-map-range_with_len (difference_at plain samples) 0 (length samples) place place (pos 0) h
        (zero-add place)));
  }

-- ---- the data's bits

unstuffed-data : (stretch more : List ℕ) → unstuffed (stuffed stretch ++ 255 ∷ 217 ∷ []) ≡ stretch
unfolding stuffed
unstuffed-data [] more = unstuffed-marker 255 217 [] refl refl
unstuffed-data (byte ∷ stretch) more =
    elim (cases_eq byte 255) [
      | inl marked ↦
          let test = eq-eqb byte 255 marked in
          let split : stuffed (byte ∷ stretch) ≡ 255 ∷ 0 ∷ stuffed stretch =
          ap (λ x. x ++ stuffed stretch) (cond-true _ _ _ test) in
          ap (λ x. unstuffed (x ++ 255 ∷ 217 ∷ [])) split
          ∙ unstuffed-stuffed 255 0 (stuffed stretch ++ 255 ∷ 217 ∷ []) refl refl
          ∙ ap₂ (λ b x. b ∷ x) (sym marked) (unstuffed-data stretch more)
      | inr plain ↦
          let test = ne_eqb byte 255 plain in
          let split : stuffed (byte ∷ stretch) ≡ byte ∷ stuffed stretch =
          ap (λ x. x ++ stuffed stretch) (cond-false _ _ _ test) in
          ap (λ x. unstuffed (x ++ 255 ∷ 217 ∷ [])) split
          ∙ unstuffed-plain byte (stuffed stretch ++ 255 ∷ 217 ∷ []) test
          ∙ ap (λ x. byte ∷ x) (unstuffed-data stretch more)
    ]

data_bits-data : (stretch : List ℕ) → data_bits (stuffed stretch ++ 255 ∷ 217 ∷ []) ≡ byte_bits stretch
unfolding data_bits
data_bits-data stretch = ap byte_bits (unstuffed-data stretch [])

pub decoded_so : (samples bytes : List ℕ) (lines columns precision selection : ℕ)
    → ((place : ℕ) → place < length samples → get_or samples place 0 < 65536)
    → (s : IsStream samples lines columns precision selection bytes)
    → IsDecoded (written_scan precision lines columns s.predictor (stuffed s.stretch ++ 255 ∷ 217 ∷ []))
    (length samples) samples
decoded_so samples bytes lines columns precision selection small s =
    let tail = stuffed s.stretch ++ 255 ∷ 217 ∷ [] in
    let plain = written_scan precision lines columns s.predictor [] in
    record {
      differences = map (difference_at plain samples) (range_with_len 0 (length samples));
      rest = replicate s.ones true;
      begins = record {
        taken = sample_bits plain samples (length samples);
        parts = data_bits-data s.stretch ∙ s.digits;
        spelled = all_spelled precision lines columns s.predictor tail samples (length samples);
      };
      enough = length-map-range_with_len (difference_at plain samples) 0 (length samples);
      rebuilt = all_rebuilt precision lines columns s.predictor tail samples small;
    }

pub law : (samples bytes : List ℕ) (lines columns precision selection : ℕ) → 0 < length samples
    → length samples ≡ lines * columns → lines < 2 ^ 16 → columns < 2 ^ 16 → 2 ≤ precision → precision ≤ 16
    → All (λ sample. sample < 2 ^ 16) samples → IsStream samples lines columns precision selection bytes
    → IsAnswer bytes (length samples) (Ok tt) samples
law samples bytes lines columns precision selection some size few_lines few_columns low high small s =
    let tail = stuffed s.stretch ++ 255 ∷ 217 ∷ [] in
    let scan = written_scan precision lines columns s.predictor tail in
    let prefix = head precision lines columns selection in
    let split : bytes ≡ prefix ++ tail = s.is ∙ append_assoc prefix (stuffed s.stretch) (255 ∷ 217 ∷ []) in
    let headers : headers_of bytes ≡ Ok scan =
    ap headers_of split ∙ written_headers precision lines columns selection s.predictor tail low high s.chosen in
    let count : sample_count scan ≡ length samples = omega (arith, size) in
    answer_at bytes samples (length samples) scan (Ok scan) (Ok tt) headers (sized_so scan (length samples) count)
    (decoded_so samples bytes lines columns precision selection (λ place h. small place 0 h) s)
