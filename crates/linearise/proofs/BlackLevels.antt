-- Black levels of an area.
use Rattle.std.proofs.Common.{◌≡◌, ℕ, ◌+◌, ◌*◌, ◌/◌, ◌%◌, ◌<◌, ◌≤◌, ℤ, pos, List, length, get_or, map, sym, ◌∙◌, ap}
use Rattle.std.proofs.Common.{arith}
use Rattle.std.specs.List.{range_with_len}
use Rattle.std.proofs.lemmas.List.{ext_get_or}
use Rattle.std.proofs.lemmas.List.FromFn.{length-map-range_with_len, get_or-map-range_with_len}
use Rattle.std.proofs.lemmas.Nat.{div_below, div-mul-add, mod-mul-add, mod_below, mul-add-lt}
use Rattle.std.specs.Prelude.{◌+ℤ◌}
use Rattle.dng_tags.specs.Black.{across_at, black_at, row_by_row}
use Rattle.dng_tags.specs.declared.record.Levels.{Levels}
use Rattle.linearise.specs.inner.Blacks.{black_by}

-- a level of an area, by its place
pub area_at : (rows cols : ℕ) (f : ℕ → ℕ → ℤ) (r c : ℕ) → r < rows → c < cols
    → get_or (row_by_row rows cols f) (r * cols + c) (pos 0) ≡ f r c
unfolding row_by_row
area_at rows cols f r c in_rows in_cols =
    let within : r * cols + c < rows * cols = omega (arith, mul-add-lt r cols c rows in_rows in_cols) in
    get_or-map-range_with_len (λ i. f (i / cols) (i % cols)) 0 (rows * cols) (r * cols + c) (r * cols + c) (pos 0)
    within (omega arith)
    ∙ ap (λ i. f i ((r * cols + c) % cols)) (div-mul-add r cols c in_cols)
    ∙ ap (λ i. f r i) (mod-mul-add r cols c in_cols)

-- the same levels at each place
pub area_same : (rows cols : ℕ) (f g : ℕ → ℕ → ℤ) → 1 ≤ cols → ((r c : ℕ) → r < rows → c < cols → f r c ≡ g r c)
    → row_by_row rows cols f ≡ row_by_row rows cols g
unfolding row_by_row
area_same rows cols f g some same =
    let by_f : ℕ → ℤ = λ i. f (i / cols) (i % cols) in
    let by_g : ℕ → ℤ = λ i. g (i / cols) (i % cols) in
    let n : ℕ = rows * cols in
    let long_f = length-map-range_with_len by_f 0 n in
    ext_get_or (pos 0) (map by_f (range_with_len 0 n)) (map by_g (range_with_len 0 n)) (long_f
    ∙ sym (length-map-range_with_len by_g 0 n))
    (λ i before.
    let within : i < n = omega (arith, long_f) in
    get_or-map-range_with_len by_f 0 n i i (pos 0) within (omega arith)
    ∙ same (i / cols) (i % cols) (div_below i cols rows (omega arith) (omega arith)) (mod_below i cols (omega arith))
    ∙ sym (get_or-map-range_with_len by_g 0 n i i (pos 0) within (omega arith)))

-- two areas with the same levels have them at each place
pub area_points : (rows cols : ℕ) (f g : ℕ → ℕ → ℤ) → row_by_row rows cols f ≡ row_by_row rows cols g → (r c : ℕ)
    → r < rows → c < cols → f r c ≡ g r c
area_points rows cols f g same r c in_rows in_cols =
    sym (area_at rows cols f r c in_rows in_cols) ∙ ap (λ xs. get_or xs (r * cols + c) (pos 0)) same
    ∙ area_at rows cols g r c in_rows in_cols

-- the levels of the columns in each row of the pattern, and what the rows add, make the black levels
pub levels_are : (levels : Levels) (rows cols : ℕ) (across down : List ℤ) → 1 ≤ cols → 1 ≤ levels.black_rows
    → length across ≡ levels.black_rows * cols → length down ≡ rows
    → ((k : ℕ) → k < length across → get_or across k (pos 0) ≡ across_at levels (k / cols) (k % cols))
    → ((k : ℕ) → k < length down → get_or down k (pos 0) ≡ get_or levels.delta_v k (pos 0))
    → row_by_row rows cols (black_by cols levels.black_rows across down) ≡ row_by_row rows cols (black_at levels)
levels_are levels rows cols across down some some_rows long_across long_down in_across in_down =
    area_same rows cols (black_by cols levels.black_rows across down) (black_at levels) some
    (λ r c in_rows in_cols.
    let i : ℕ = r % levels.black_rows in
    let first : i < levels.black_rows = mod_below r levels.black_rows some_rows in
    let within : i * cols + c < length across = omega (arith, mul-add-lt i cols c levels.black_rows first in_cols) in
    let level : get_or across (i * cols + c) (pos 0) ≡ across_at levels i c =
    in_across (i * cols + c) within
    ∙ ap (λ n. across_at levels n ((i * cols + c) % cols)) (div-mul-add i cols c in_cols)
    ∙ ap (λ n. across_at levels i n) (mod-mul-add i cols c in_cols) in
    let row : get_or down r (pos 0) ≡ get_or levels.delta_v r (pos 0) = in_down r (omega arith) in
    λ j. level j +ℤ row j)
