-- The samples by formula are those that the bytes spell.
use Rattle.std.proofs.Common.{◌≡◌, ℕ, zero, suc, ◌+◌, ◌*◌, ◌/◌, ◌%◌, ◌^◌, ◌<◌, ◌≤◌, List, [], ◌∷◌, ◌++◌, length}
use Rattle.std.proofs.Common.{length-drop, map, take, drop, refl, sym, ap, ◌∙◌, subst, arith}
use Rattle.std.specs.List.{flat_map, range_with_len}
use Rattle.std.specs.Fork.{slice_chunk}
use Rattle.std.proofs.lemmas.List.{append-nil, get_or-drop, get_or-take, take-append-drop}
use Rattle.std.proofs.lemmas.List.Concat.{flat_map-append}
use Rattle.std.proofs.lemmas.List.Elements.{All-from_get_or}
use Rattle.std.proofs.lemmas.List.FromFn.{fill_by_all, get_or-map-range_with_len, length-map-range_with_len}
use Rattle.std.proofs.lemmas.List.FromFn.{map-range_with_len_more}
use Rattle.std.proofs.lemmas.Nat.{div-mul-add, mod-mul-add, mul-add-lt}
use Rattle.std.proofs.Math.Seq.{take-add}
use Rattle.tiff_dirs.specs.declared.Order.{Order}
use Rattle.binary_digits.specs.Digits.{byte_bits, number_of}
use Rattle.binary_digits.proofs.DigitLemmas.{length-byte_bits, number_of-lt}
use Rattle.strip_unpack.specs.Samples.{Spells, SpellsRows, file_order, needed_bytes, row_bytes, row_sample}
use Rattle.strip_unpack.specs.Samples.{sample_bits, unpacked}
use Rattle.strip_unpack.proofs.FileOrder.{length-file_order, sample_bits-number_of}
use Rattle.strip_unpack.proofs.OneSpelling.{same_spelled}
use Rattle.strip_unpack.proofs.Rows.{length_part}

-- the digits of sample i of a row
row_digits : (order : Order) (depth i n : ℕ) (bytes : List ℕ) → depth ≤ 16 → i < n
    → n * depth ≤ length (byte_bits bytes)
    → sample_bits order depth (row_sample order depth bytes i) ≡ slice_chunk (byte_bits bytes) depth i
unfolding row_sample
row_digits order depth i n bytes most h long =
    sample_bits-number_of order depth (slice_chunk (byte_bits bytes) depth i) most
    (length_part depth i n (byte_bits bytes) h long)

row_fits : (order : Order) (depth i n : ℕ) (bytes : List ℕ) → depth ≤ 16 → i < n → n * depth ≤ length (byte_bits bytes)
    → row_sample order depth bytes i < 2 ^ depth
unfolding row_sample
row_fits order depth i n bytes most h long =
    let bits = slice_chunk (byte_bits bytes) depth i in
    let P : ℕ → Type 0 = λ k. number_of (file_order order depth bits) < 2 ^ k in
    subst P (length-file_order order depth bits most ∙ length_part depth i n (byte_bits bytes) h long)
    (number_of-lt (file_order order depth bits))

-- the first samples of a row
row_prefix : (order : Order) (depth cols : ℕ) (bytes : List ℕ) → depth ≤ 16 → cols * depth ≤ length (byte_bits bytes)
    → (n : ℕ) → n ≤ cols → take (n * depth) (byte_bits bytes) ≡ flat_map (sample_bits order depth)
    (map (row_sample order depth bytes) (range_with_len 0 n))
row_prefix order depth cols bytes most long zero h = let none : 0 * depth ≡ 0 = omega arith in rw none refl
row_prefix order depth cols bytes most long (suc n) h =
    let f = sample_bits order depth in
    let g = row_sample order depth bytes in
    let bits = byte_bits bytes in
    let count : suc n * depth ≡ n * depth + depth = omega arith in
    let next : suc n ≡ n + 1 = omega arith in
    let before = row_prefix order depth cols bytes most long n (omega arith) in
    let here : f (g n) ++ [] ≡ slice_chunk bits depth n =
    append-nil (f (g n)) ∙ row_digits order depth n cols bytes most h long in
    ap (λ k. take k bits) count
    ∙ take-add (n * depth) depth bits
    ∙ ap (λ xs. xs ++ slice_chunk bits depth n) before
    ∙ ap (λ xs. flat_map f (map g (range_with_len 0 n)) ++ xs) (sym here)
    ∙ sym (flat_map-append f (map g (range_with_len 0 n)) (g n ∷ []))
    ∙ ap (flat_map f) (sym (map-range_with_len_more g 0 n n (omega arith)))
    ∙ ap (λ k. flat_map f (map g (range_with_len 0 k))) (sym next)

-- a row's bytes spell its samples
row_spelled : (order : Order) (depth cols : ℕ) (bytes : List ℕ) → depth ≤ 16 → length bytes ≡ row_bytes depth cols
    → Spells (sample_bits order depth) depth (map (row_sample order depth bytes) (range_with_len 0 cols)) bytes
row_spelled order depth cols bytes most size =
    let g = row_sample order depth bytes in
    let bits = byte_bits bytes in
    let all = length-byte_bits bytes in
    let long : cols * depth ≤ length bits = omega arith in
    let count = length-map-range_with_len g 0 cols in
    record {
      fits = All-from_get_or (λ x. x < 2 ^ depth) (map g (range_with_len 0 cols)) 0 (λ i h.
          let within : i < cols = omega arith in
          rw (get_or-map-range_with_len g 0 cols i i 0 within (omega arith))
          (row_fits order depth i cols bytes most within long));
      padding = drop (cols * depth) bits;
      within_byte = rw length-drop (omega arith);
      spelled =
          sym (take-append-drop (cols * depth) bits)
          ∙ ap (λ xs. xs ++ drop (cols * depth) bits) (row_prefix order depth cols bytes most long cols (omega arith));
    }

-- row k of the samples by formula
row_of_formula : (order : Order) (depth rows cols k : ℕ) (bytes : List ℕ) → k < rows
    → slice_chunk (unpacked order depth rows cols bytes) cols k
    ≡ map (row_sample order depth (slice_chunk bytes (row_bytes depth cols) k)) (range_with_len 0 cols)
unfolding unpacked
row_of_formula order depth rows cols k bytes h =
    let w = row_bytes depth cols in
    let g = λ (i : ℕ). row_sample order depth (slice_chunk bytes w (i / cols)) (i % cols) in
    let all = map g (range_with_len 0 (rows * cols)) in
    let count = length-map-range_with_len g 0 (rows * cols) in
    fill_by_all (row_sample order depth (slice_chunk bytes w k)) (slice_chunk all cols k) cols 0
    (length_part cols k rows all h (omega arith))
    (λ i less.
    let within : k * cols + i < cols * rows = mul-add-lt k cols i rows h less in
    get_or-take cols (drop (k * cols) all) i 0 less
    ∙ get_or-drop (k * cols) all i 0
    ∙ get_or-map-range_with_len g 0 (rows * cols) (k * cols + i) (k * cols + i) 0 (omega arith) (omega arith)
    ∙ (rw (div-mul-add k cols i less, mod-mul-add k cols i less) refl))

-- enough bytes spell the samples by formula
pub formula_spelled : (order : Order) (depth rows cols : ℕ) (bytes : List ℕ) → depth ≤ 16
    → needed_bytes depth rows cols ≤ length bytes
    → SpellsRows order depth rows cols (unpacked order depth rows cols bytes) bytes
unfolding unpacked
formula_spelled order depth rows cols bytes most long = record {
  count = length-map-range_with_len _ 0 (rows * cols);
  row = λ k h.
      let w = row_bytes depth cols in
      let P : List ℕ → Type 0 = λ xs. Spells (sample_bits order depth) depth xs (slice_chunk bytes w k) in
      subst P (sym (row_of_formula order depth rows cols k bytes h))
      (row_spelled order depth cols (slice_chunk bytes w k) most (length_part w k rows bytes h long));
}

-- bytes spell no samples but those by formula
pub formula_alone : (order : Order) (depth rows cols : ℕ) (bytes others : List ℕ) → depth ≤ 16
    → needed_bytes depth rows cols ≤ length bytes → SpellsRows order depth rows cols others bytes
    → others ≡ unpacked order depth rows cols bytes
formula_alone order depth rows cols bytes others most long h =
    same_spelled order depth rows cols others (unpacked order depth rows cols bytes) bytes most h
    (formula_spelled order depth rows cols bytes most long)
