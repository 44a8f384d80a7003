-- The cells that meet rectangles.
use Rattle.std.proofs.Common.{◌≡◌, ℕ, zero, suc, ◌+◌, ◌<◌, ◌≤◌, List, [], ◌∷◌, ◌++◌, length, get_or, take, drop}
use Rattle.std.proofs.Common.{map, slice_get, Some, true, false, cond, refl, sym, ◌∙◌, ap, subst, arith, add-one}
use Rattle.std.proofs.Common.{drop-cons, append_assoc}
use Rattle.std.proofs.lemmas.Grind.{common_steps}
use Rattle.std.specs.List.{All, Contains}
use Rattle.std.proofs.lemmas.List.{append-nil, drop_all, get_or-map, length-map}
use Rattle.std.proofs.lemmas.List.Elements.{All-nil, All-cons, All-weaker}
use Rattle.std.proofs.lemmas.Map.Keys.{any_passes_from_place}
use Rattle.std.proofs.lemmas.Option.{get_or_from_slice_get, slice_get_within}
use Rattle.std.specs.List.Sorted.{IsStrictlyIncreasing}
use Rattle.std.proofs.lemmas.Bool.Decides.{nat_tests}
use Rattle.plane_view.specs.declared.Rect.{Rect}
use Rattle.plane_view.specs.Rectangles.{HasPixel, LiesIn}
use Rattle.stage_core.proofs.CellLemmas.{one_of_any}
use Rattle.stage_deps.specs.Cells.{meets, meets_one, meeting, meeting_from, no_rect, cell_at, cells_at}

-- the numbers are those of cells
bounds_from : (rects cells : List Rect) (from : ℕ) → All (λ k. k < from + length cells) (meeting_from rects from cells)
bounds_from rects [] from = All-nil (λ k. k < from + 0)
bounds_from rects (cell ∷ cells) from =
    let P : ℕ → Type 0 = λ k. k < from + suc (length cells) in
    let rest : All P (meeting_from rects (from + 1) cells) = All-weaker (λ k. k < from + 1 + length cells) P
    (λ k h. omega arith) (meeting_from rects (from + 1) cells) (bounds_from rects cells (from + 1)) in
    elim (meets_one rects cell) as (λ b. All P (cond b (from ∷ meeting_from rects (from + 1) cells)
    (meeting_from rects (from + 1) cells))) [
      | true ↦ All-cons P from (meeting_from rects (from + 1) cells)
          (omega arith) rest
      | false ↦ rest
    ]

pub meeting_bounds : (cells rects : List Rect) → All (λ k. k < length cells) (meeting cells rects)
meeting_bounds cells rects = All-weaker (λ k. k < 0 + length cells) (λ k. k < length cells) (λ k h. omega arith)
    (meeting cells rects) (bounds_from rects cells 0)

-- a number in a list is in the list with one more in front
contains_cons : (x y : ℕ) (xs : List ℕ) → Contains xs x → Contains (y ∷ xs) x
contains_cons x y xs found = (suc found.0, omega (arith, found.1), found.2)

-- a cell that meets one of the rectangles is among them
among_from : (rects cells : List Rect) (from k : ℕ) → k < length cells → meets_one rects (cell_at cells k) ≡ true
    → Contains (meeting_from rects from cells) (from + k)
among_from rects [] from k below test = absurd (omega arith)
among_from rects (cell ∷ cells) from zero below test =
    let here : from + 0 ≡ from = omega arith in
    rw (here, test) (0, omega arith, refl)
among_from rects (cell ∷ cells) from (suc k) below test =
    let next : from + 1 + k ≡ from + suc k = omega arith in
    let rest : Contains (meeting_from rects (from + 1) cells) (from + suc k) =
    subst (λ (n : ℕ). Contains (meeting_from rects (from + 1) cells) n) next
    (among_from rects cells (from + 1) k (omega arith) test) in
    elim (meets_one rects cell) as (λ b. Contains (cond b (from ∷ meeting_from rects (from + 1) cells)
    (meeting_from rects (from + 1) cells)) (from + suc k)) [
      | true ↦ contains_cons (from + suc k) from
          (meeting_from rects (from + 1) cells) rest
      | false ↦ rest
    ]

-- rectangles with a pixel in common meet
meets_pixel : (a b : Rect) (r c : ℕ) → HasPixel a r c → HasPixel b r c → meets a b ≡ true
meets_pixel a b r c in_a in_b = grind (arith, nat_tests)

-- a cell that has a pixel in common with one of the rectangles meets one of them
pub meets_one_pixel : (rects : List Rect) (cell rect : Rect) (j r c : ℕ) → slice_get rects j ≡ Some rect
    → HasPixel cell r c → HasPixel rect r c → meets_one rects cell ≡ true
meets_one_pixel rects cell rect j r c at in_cell in_rect =
    any_passes_from_place (meets cell) rects j rect at (meets_pixel cell rect r c in_cell in_rect)

-- a cell that meets one of the rectangles meets what they lie in
pub meets_around : (rects : List Rect) (cell around : Rect) → All (λ (rect : Rect). LiesIn rect around) rects
    → meets_one rects cell ≡ true → meets cell around ≡ true
meets_around rects cell around lie test =
    let found = one_of_any (meets cell) rects test in
    let k : ℕ = found.0 in
    let rect : Rect = found.1 in
    let lies : LiesIn rect around =
    subst (λ (x : Rect). LiesIn x around) (get_or_from_slice_get rects k rect no_rect found.2)
    (lie k no_rect (slice_get_within rects k rect found.2)) in
    let meet : meets cell rect ≡ true = found.3 in
    grind (arith, nat_tests)

-- what holds of the need of each cell
pub unmapped : (Q : Rect → Type 0) (f : Rect → Rect) (cells : List Rect) (numbers : List ℕ)
    → All Q (map f (cells_at cells numbers)) → All (λ k. Q (f (cell_at cells k))) numbers
unmapped Q f cells numbers all = λ k d below.
    subst Q (get_or-map f (cells_at cells numbers) k (cell_at cells d) (f (cell_at cells d))
    (omega (arith, length-map numbers (cell_at cells)))
    ∙ ap f (get_or-map (cell_at cells) numbers k d (cell_at cells d) below))
    (all k (f (cell_at cells d))
    (omega (arith, length-map (cells_at cells numbers) f, length-map numbers (cell_at cells))))

-- the numbers rise
rises_cons : (x : ℕ) (xs : List ℕ) → All (λ y. x < y) xs → IsStrictlyIncreasing xs → IsStrictlyIncreasing (x ∷ xs)
rises_cons x xs above rises zero below = above 0 0 (omega arith)
rises_cons x xs above rises (suc k) below =
    let next : suc k + 1 ≡ suc (k + 1) = omega arith in
    subst (λ (n : ℕ). get_or xs k 0 < get_or (x ∷ xs) n 0) (sym next) (rises k (omega arith))

least_from : (rects cells : List Rect) (from : ℕ) → All (λ k. from ≤ k) (meeting_from rects from cells)
least_from rects [] from = All-nil (λ k. from ≤ k)
least_from rects (cell ∷ cells) from =
    let P : ℕ → Type 0 = λ k. from ≤ k in
    let rest : All P (meeting_from rects (from + 1) cells) = All-weaker (λ k. from + 1 ≤ k) P (λ k h. omega arith)
    (meeting_from rects (from + 1) cells) (least_from rects cells (from + 1)) in
    elim (meets_one rects cell) as (λ b. All P (cond b (from ∷ meeting_from rects (from + 1) cells)
    (meeting_from rects (from + 1) cells))) [
      | true ↦ All-cons P from (meeting_from rects (from + 1) cells)
          (omega arith) rest
      | false ↦ rest
    ]

rises_from : (rects cells : List Rect) (from : ℕ) → IsStrictlyIncreasing (meeting_from rects from cells)
rises_from rects [] from = λ k below. absurd (omega arith)
rises_from rects (cell ∷ cells) from =
    let xs : List ℕ = meeting_from rects (from + 1) cells in
    let rest : IsStrictlyIncreasing xs = rises_from rects cells (from + 1) in
    let above : All (λ y. from < y) xs = All-weaker (λ k. from + 1 ≤ k) (λ y. from < y) (λ k h. omega arith) xs
    (least_from rects cells (from + 1)) in
    elim (meets_one rects cell) as (λ b. IsStrictlyIncreasing (cond b (from ∷ xs) xs)) [
      | true ↦ rises_cons from xs above
          rest
      | false ↦ rest
    ]

pub meeting_rises : (cells rects : List Rect) → IsStrictlyIncreasing (meeting cells rects)
meeting_rises cells rects = rises_from rects cells 0

-- the number of a cell that meets one of the rectangles is among them
pub meeting_among : (cells rects : List Rect) (k : ℕ) → k < length cells → meets_one rects (cell_at cells k) ≡ true
    → Contains (meeting cells rects) k
meeting_among cells rects k below test = let same : 0 + k ≡ k = omega arith in
    subst (λ (n : ℕ). Contains (meeting cells rects) n) same (among_from rects cells 0 k below test)

-- the cells from one on
next_cell : (cells : List Rect) (k : ℕ) (cell : Rect) → slice_get cells k ≡ Some cell
    → drop k cells ≡ cell ∷ drop (k + 1) cells
next_cell cells k cell at =
    drop-cons cells k cell (slice_get_within cells k cell at)
    ∙ ap (λ (x : Rect). x ∷ drop (suc k) cells) (get_or_from_slice_get cells k cell cell at)
    ∙ ap (λ (n : ℕ). cell ∷ drop n cells) (sym (add-one k))

-- the numbers so far and those still to come: one more cell, which meets one of the rectangles
pub meeting_more : (rects cells : List Rect) (items : List ℕ) (k : ℕ) (cell : Rect) → slice_get cells k ≡ Some cell
    → meets_one rects cell ≡ true
    → (items ++ k ∷ []) ++ meeting_from rects (k + 1) (drop (k + 1) cells) ≡ items
    ++ meeting_from rects k (drop k cells)
meeting_more rects cells items k cell at met =
    append_assoc items (k ∷ []) (meeting_from rects (k + 1) (drop (k + 1) cells))
    ∙ ap (λ (xs : List ℕ). items ++ xs) (sym (ap (meeting_from rects k) (next_cell cells k cell at) ∙ (rw met refl)))

-- the same for a cell that meets none of them
pub meeting_less : (rects cells : List Rect) (items : List ℕ) (k : ℕ) (cell : Rect) → slice_get cells k ≡ Some cell
    → meets_one rects cell ≡ false
    → items ++ meeting_from rects (k + 1) (drop (k + 1) cells) ≡ items ++ meeting_from rects k (drop k cells)
meeting_less rects cells items k cell at not_met =
    ap (λ (xs : List ℕ). items ++ xs) (sym (ap (meeting_from rects k) (next_cell cells k cell at) ∙ (rw not_met refl)))

-- the rectangles of the first i + 1 numbers are those of the first i and one more
pub cells_more : (cells : List Rect) (numbers : List ℕ) (i : ℕ) (items : List Rect) (rect : Rect) → i < length numbers
    → items ≡ cells_at cells (take i numbers) → rect ≡ cell_at cells (get_or numbers i 0)
    → items ++ rect ∷ [] ≡ cells_at cells (take (i + 1) numbers)
cells_more cells numbers i items rect within so_far is = grind (arith, common_steps)

-- no cell is left
pub all_seen : (cells rects : List Rect) (i : ℕ) (items : List ℕ) → items ++ meeting_from rects i (drop i cells)
    ≡ meeting cells rects → length cells ≤ i → items ≡ meeting cells rects
all_seen cells rects i items told past = sym (append-nil items)
    ∙ ap (λ (rest : List Rect). items ++ meeting_from rects i rest) (sym (drop_all i cells past)) ∙ told
