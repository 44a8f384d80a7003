-- Lines that are decoded one after the other.
use Rattle.std.proofs.Common.{◌≡◌, ℕ, zero, suc, ◌+◌, ◌-◌, ◌*◌, ◌%◌, ◌<◌, ◌≤◌, inl, inr, Bool, ℤ, pos, ◌+ℤ◌, List, []}
use Rattle.std.proofs.Common.{◌++◌, length, get_or, sym, ap, ap₂, ◌∙◌, subst, arith, append_assoc, length-append}
use Rattle.std.proofs.Math.Nat.{add-mul-mod_self_right, mul-le-mul_right}
use Rattle.std.proofs.lemmas.Bool.{cases_lt}
use Rattle.std.proofs.lemmas.List.{get_or-append-add, get_or-map, get_or_append_left, length-map}
use Rattle.ljpeg_huffman.specs.Words.{Table, IsPrefixFree}
use Rattle.ljpeg_huffman.specs.Differences.{IsRefused, Spells, StopsShort, Takes, data_bits, modulo}
use Rattle.ljpeg_huffman.specs.declared.bits.BitFault.{BitFault}
use Rattle.ljpeg_predict.specs.inner.Lines.{IsLine}
use Rattle.ljpeg_predict.specs.Prediction.{prediction}
use Rattle.ljpeg_predict.specs.Scans.{Scan, components, row_length, sample_count, table_at}
use Rattle.ljpeg_predict.specs.Streams.{IsCutShort}
use Rattle.ljpeg_predict.proofs.LongestLemmas.{Spells-append, longest}
use Rattle.ljpeg_predict.proofs.ModuloLemmas.{modulo-add-modulo}
use Rattle.ljpeg_predict.proofs.PredictionLemmas.{prediction_agrees}

-- so many lines were decoded, and `rest` is left of the data bits
pub record Decoded (scan : Scan) (samples : List ℕ) (lines : ℕ) (rest : List Bool) : Type 0 where
  pub values : List ℤ
  pub taken : List Bool
  pub parts : data_bits scan.bytes ≡ taken ++ rest
  pub spelled : Spells (table_at scan) taken values
  pub count : length values ≡ lines * row_length scan
  pub each : (k : ℕ) → k < lines * row_length scan
      → get_or samples k 0 ≡ modulo (prediction scan samples k +ℤ get_or values k (pos 0))

-- the tables' turns begin anew at each line
pub turns_anew : (scan : Scan) (lines size : ℕ) → size ≡ lines * row_length scan
    → (λ (place : ℕ). table_at scan (size + place)) ≡ table_at scan
turns_anew scan lines size e =
    let n = components scan in
    let whole : (place : ℕ) → size + place ≡ place + lines * scan.columns * n =
    λ place. ap (λ k. k + place) e ∙ omega arith in
    let turn : (place : ℕ) → (size + place) % n ≡ place % n =
    λ place. ap (λ k. k % n) (whole place) ∙ add-mul-mod_self_right place (lines * scan.columns) n in
    λ i. λ place. get_or scan.tables (turn place i) []

-- one more line
module _ (scan : Scan) (some : 0 < components scan) (samples above line more numbers : List ℕ) (lines : ℕ)
    (middle rest : List Bool)
    (long : length above ≡ lines * row_length scan) (row : length line ≡ row_length scan) (width : 0 < row_length scan)
    (prefix : (k : ℕ) → k < length above → get_or samples k 0 ≡ get_or above k 0)
    (before : Decoded scan samples lines middle) (takes : Takes (table_at scan) middle numbers rest)
    (size : length numbers ≡ row_length scan)
    (is : IsLine scan above numbers line) where
  abbrev new : List ℕ
  new = above ++ (line ++ more)

  abbrev values : List ℤ
  values = before.values ++ takes.values

  counted : length before.values ≡ length above
  counted = before.count ∙ sym long

  taken_count : length takes.values ≡ row_length scan
  taken_count = sym (length-map takes.values modulo) ∙ sym (ap length takes.each) ∙ size

  in_prefix : (k : ℕ) → k < length above → get_or new k 0 ≡ get_or samples k 0
  in_prefix k h = get_or_append_left above (line ++ more) 0 k h ∙ sym (prefix k h)

  in_both : (k : ℕ) → k < length (above ++ line) → get_or new k 0 ≡ get_or (above ++ line) k 0
  in_both k h = ap (λ xs. get_or xs k 0) (sym (append_assoc above line more))
      ∙ get_or_append_left (above ++ line) more 0 k h

  former : (k : ℕ) → k < length above → get_or new k 0 ≡ modulo (prediction scan new k +ℤ get_or values k (pos 0))
  former k h =
      let same = prediction_agrees scan new samples k some width (λ j g. in_prefix j (omega arith)) in
      let value : get_or values k (pos 0) ≡ get_or before.values k (pos 0) =
      get_or_append_left before.values takes.values (pos 0) k (omega (arith, counted)) in
      in_prefix k h ∙ before.each k (omega arith) ∙ ap₂ (λ p v. modulo (p +ℤ v)) (sym same) (sym value)

  later : (j : ℕ) → j < row_length scan
      → get_or new (length above + j) 0
      ≡ modulo (prediction scan new (length above + j) +ℤ get_or values (length above + j) (pos 0))
  later j h =
      let here = length above + j in
      let both : length (above ++ line) ≡ length above + length line = length-append above line in
      let same = prediction_agrees scan (above ++ line) new here some width (λ k g. sym (in_both k (omega arith))) in
      let number : get_or numbers j 0 ≡ modulo (get_or takes.values j (pos 0)) =
      ap (λ xs. get_or xs j 0) takes.each
      ∙ get_or-map modulo takes.values j (pos 0) 0 (omega (arith, taken_count)) in
      let value : get_or values here (pos 0) ≡ get_or takes.values j (pos 0) =
      ap (λ n. get_or values (n + j) (pos 0)) (sym counted)
      ∙ get_or-append-add before.values takes.values j (pos 0) in
      in_both here (omega arith) ∙ get_or-append-add above line j 0 ∙ is j (omega arith)
      ∙ ap (λ n. modulo (prediction scan (above ++ line) here +ℤ pos n)) number
      ∙ modulo-add-modulo (prediction scan (above ++ line) here) (get_or takes.values j (pos 0))
      ∙ ap₂ (λ p v. modulo (p +ℤ v)) same (sym value)

  pub more_decoded : Decoded scan new (lines + 1) rest
  more_decoded = record {
    values = values;
    taken = before.taken ++ takes.taken;
    parts = before.parts ∙ ap (λ x. before.taken ++ x) takes.parts ∙ sym (append_assoc before.taken takes.taken rest);
    spelled = Spells-append before.values takes.values (table_at scan) before.taken takes.taken before.spelled
        (subst (λ ts. Spells ts takes.taken takes.values)
        (sym (turns_anew scan lines (length before.values) before.count)) takes.spelled);
    count = length-append before.values takes.values ∙ ap₂ (λ m n. m + n) before.count taken_count ∙ omega arith;
    each = λ k h. elim (cases_lt k (length above)) [
      | inl less ↦ former k less
      | inr far ↦
          let at : length above + (k - length above) ≡ k = omega arith in
          subst (λ (n : ℕ). get_or new n 0 ≡ modulo (prediction scan new n +ℤ get_or values n (pos 0))) at
          (later (k - length above) (omega arith))
    ];
  }

-- no further line
pub cut_short : (scan : Scan) (free : (place : ℕ) → IsPrefixFree (table_at scan place)) (samples : List ℕ)
    (lines size row : ℕ) (middle : List Bool) (f : BitFault) → lines < scan.lines → size ≡ sample_count scan
    → row ≡ row_length scan → Decoded scan samples lines middle → StopsShort (table_at scan) middle row f
    → IsCutShort scan size f
cut_short scan free samples lines size row middle f h is width before stops =
    let values = before.values ++ stops.values in
    let taken = before.taken ++ stops.taken in
    let parts : data_bits scan.bytes ≡ taken ++ stops.rest =
    before.parts ∙ ap (λ x. before.taken ++ x) stops.parts
    ∙ sym (append_assoc before.taken stops.taken stops.rest) in
    let anew = turns_anew scan lines (length before.values) before.count in
    let spelled = Spells-append before.values stops.values (table_at scan) before.taken stops.taken before.spelled
    (subst (λ ts. Spells ts stops.taken stops.values) (sym anew) stops.spelled) in
    let count : length values ≡ length before.values + length stops.values = length-append before.values stops.values in
    let table : table_at scan (length values) ≡ table_at scan (length stops.values) =
    ap (table_at scan) count ∙ ap (λ (ts : ℕ → Table). ts (length stops.values)) anew in
    let refused = subst (λ t. IsRefused t stops.rest f) (sym table) stops.refused in
    let less : (lines + 1) * row_length scan ≤ scan.lines * row_length scan =
    mul-le-mul_right (row_length scan) (omega arith) in
    record {
      differences = values;
      rest = stops.rest;
      begins = record { taken = taken; parts = parts; spelled = spelled };
      few = omega (arith, count, before.count, less, stops.few, is, width);
      longest = λ others behind b. longest values others
          (table_at scan) free taken stops.rest b.taken behind f spelled refused b.spelled (sym parts ∙ b.parts);
      refused = refused;
    }

-- where there are samples, lines have some
pub some_width : (lines row size : ℕ) → 0 < size → size ≡ lines * row → 0 < row
some_width lines zero size some e = absurd (omega arith)
some_width lines (suc row) size some e = omega arith

-- there is room for a line
pub room_for_line : (line lines row size : ℕ) → line < lines → size ≡ lines * row → line * row + row ≤ size
room_for_line line lines row size h e =
    let less : (line + 1) * row ≤ lines * row = mul-le-mul_right row (omega arith) in
    omega (arith, less)
