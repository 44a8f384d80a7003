-- Cells that are put into a part, by the list of their numbers.
use Rattle.std.proofs.Common.{◌≡◌, ℕ, ◌+◌, ◌*◌, ◌<◌, List, [], ◌∷◌, ◌++◌, length, get_or, slice_get, Some, take, Bool}
use Rattle.std.proofs.Common.{true, false, cond, not, refl, sym, ◌∙◌, ap, subst, arith, ⊎_elim}
use Rattle.std.specs.List.{All, Contains}
use Rattle.std.proofs.lemmas.List.{append-nil, append_assoc, get_or-map, length-map, take_more}
use Rattle.std.proofs.lemmas.List.Elements.{All-filter, Contains-push_cases, filter_more}
use Rattle.std.proofs.lemmas.Option.{get_or_from_slice_get}
use Rattle.plane_view.specs.declared.Rect.{Rect}
use Rattle.plane_view.specs.Plane.{Plane, crop}
use Rattle.plane_view.specs.Rectangles.{HasPixel, LiesIn, area_of}
use Rattle.plane_view.specs.Lent.{Lent, lent_crop, part_of}
use Rattle.plane_view.specs.Tiles.{CopiesFrom}
use Rattle.plane_view.proofs.Agreement.{crop_at, crop_of_part}
use Rattle.stage_deps.specs.Cells.{cell_at, cells_at, no_rect}
use Rattle.kept_cells.specs.Held.{Held, IsRight, fresh, missing}
use Rattle.kept_cells.proofs.Lower.{among_both}
use Rattle.region_session.specs.inner.Parts.{HasCells, HasWanted, HaveSizes, IsFilled}
use Rattle.region_session.proofs.Writing.{pixel_cases}

-- one more cell is put in
pub cells_more : (P : Plane) (old new : Lent) (wanted cells : List Rect) (done : List ℕ) (n : ℕ) (to : Rect)
    → HasCells P old wanted cells done → CopiesFrom old new (lent_crop P (cell_at cells n)) to
    → HasWanted to old.rect wanted → new.rect ≡ old.rect → new.planes ≡ old.planes
    → HasCells P new wanted cells (done ++ n ∷ [])
cells_more P old new wanted cells done n to had copies has rect planes =
    record {
      planes = had.planes ∙ sym planes;
      samples = λ k r c p among in_cell is_wanted pixel plane.
          let was : HasPixel old.rect r c = subst (λ (x : Rect). HasPixel x r c) rect pixel in
          let of_old : p < old.planes = subst (λ (m : ℕ). p < m) had.planes plane in
          ⊎_elim
          (λ (here : HasPixel (cell_at cells n) r c). sym (copies.copied r c p (has r c is_wanted was) here of_old
          ∙ crop_at P (cell_at cells n) r c p here plane))
          (λ (elsewhere : HasPixel (cell_at cells n) r c → ⊥).
          ⊎_elim
          (λ (earlier : Contains done k). had.samples k r c p earlier in_cell is_wanted was plane
          ∙ sym (copies.others r c p was (λ _ h. elsewhere h) of_old))
          (λ (same : n ≡ k). absurd
          (elsewhere (subst (λ (x : Rect). HasPixel x r c) (ap (cell_at cells) (sym same)) in_cell)))
          (Contains-push_cases done n k among))
          (pixel_cases (cell_at cells n) r c);
    }

-- the same of the next number of a list
pub cells_next : (P : Plane) (old new : Lent) (wanted cells : List Rect) (done numbers : List ℕ) (i : ℕ) (cell : Rect)
    → i < length numbers → cell ≡ cell_at cells (get_or numbers i 0)
    → HasCells P old wanted cells (done ++ take i numbers) → CopiesFrom old new (lent_crop P cell) old.rect
    → new.rect ≡ old.rect → new.planes ≡ old.planes
    → HasCells P new wanted cells (done ++ take (i + 1) numbers)
cells_next P old new wanted cells done numbers i cell within is had copies rect planes =
    let n : ℕ = get_or numbers i 0 in
    let more : done ++ take (i + 1) numbers ≡ done ++ take i numbers ++ n ∷ [] =
    ap (λ (xs : List ℕ). done ++ xs) (take_more numbers i 0 within)
    ∙ sym (append_assoc done (take i numbers) (n ∷ [])) in
    subst (λ (xs : List ℕ). HasCells P new wanted cells xs) (sym more)
    (cells_more P old new wanted cells (done ++ take i numbers) n old.rect had
    (subst (λ (x : Rect). CopiesFrom old new (lent_crop P x) old.rect) is copies) (λ r c is_wanted inside. inside)
    rect planes)

-- samples that are a crop's are lent as the crop
copies_crop : (P : Plane) (old new : Lent) (to rect : Rect) (planes : ℕ) (samples : List ℕ)
    → CopiesFrom old new (record { rect = rect; planes = planes; samples = samples }) to
    → samples ≡ (crop P rect).samples → P.planes ≡ planes
    → CopiesFrom old new (lent_crop P rect) to
copies_crop P old new to rect planes samples copies are same =
    let is : record { rect = rect; planes = planes; samples = samples } ≡ lent_crop P rect =
    λ i. record { rect = rect; planes = sym same i; samples = are i } in
    subst (λ (L : Lent). CopiesFrom old new L to) is copies

-- a cell that was copied from what is held, or wasn't held
pub copied_step : (P : Plane) (old new : Lent) (window : Rect) (wanted cells : List Rect) (planes : ℕ) (held : Held)
    (plane : ℕ) (numbers : List ℕ) (i : ℕ) (found : Bool)
    → i < length numbers → get_or numbers i 0 < length cells → found ≡ held.holds plane (get_or numbers i 0)
    → HasCells P old wanted cells (fresh held plane (take i numbers)) → IsRight held plane P cells → P.planes ≡ planes
    → (found ≡ true → CopiesFrom old new (record {
      rect = cell_at cells (get_or numbers i 0);
      planes = planes;
      samples = held.samples plane (get_or numbers i 0);
    }) window)
    → (found ≡ false → new ≡ old) → HasWanted window old.rect wanted → new.rect ≡ old.rect → new.planes ≡ old.planes
    → HasCells P new wanted cells (fresh held plane (take (i + 1) numbers))
copied_step P old new window wanted cells planes held plane numbers i true within inside is had right same copies stays
    has rect of =
    let n : ℕ = get_or numbers i 0 in
    let more : fresh held plane (take (i + 1) numbers) ≡ fresh held plane (take i numbers) ++ n ∷ [] =
    filter_more (held.holds plane) numbers i 0 within
    ∙ ap (λ b. fresh held plane (take i numbers) ++ cond b (n ∷ []) []) (sym is) in
    subst (λ (xs : List ℕ). HasCells P new wanted cells xs) (sym more)
    (cells_more P old new wanted cells (fresh held plane (take i numbers)) n window had
    (copies_crop P old new window (cell_at cells n) planes (held.samples plane n) (copies refl)
    (right n inside (sym is)) same) has rect of)
copied_step P old new window wanted cells planes held plane numbers i false within inside is had right same copies stays
    has rect of =
    let n : ℕ = get_or numbers i 0 in
    let more : fresh held plane (take (i + 1) numbers) ≡ fresh held plane (take i numbers) =
    filter_more (held.holds plane) numbers i 0 within
    ∙ ap (λ b. fresh held plane (take i numbers) ++ cond b (n ∷ []) []) (sym is) ∙ append-nil _ in
    subst (λ (xs : List ℕ). HasCells P new wanted cells xs) (sym more)
    (subst (λ (L : Lent). HasCells P L wanted cells (fresh held plane (take i numbers))) (sym (stays refl)) had)

-- a part that has the fresh and the missing cells of these numbers is filled with all
pub filled_from : (P : Plane) (L : Lent) (wanted cells : List Rect) (held : Held) (plane : ℕ) (numbers : List ℕ)
    → HasCells P L wanted cells (fresh held plane numbers ++ missing held plane numbers)
    → IsFilled P L wanted (cells_at cells numbers)
filled_from P L wanted cells held plane numbers had =
    record {
      planes = had.planes;
      samples = λ i r c p below in_cell is_wanted pixel of.
          let within : i < length numbers = omega (arith, below, length-map numbers (cell_at cells)) in
          let is : cell_at (cells_at cells numbers) i ≡ cell_at cells (get_or numbers i 0) =
          get_or-map (cell_at cells) numbers i 0 no_rect within in
          had.samples (get_or numbers i 0) r c p
          (among_both (held.holds plane) numbers i (held.holds plane (get_or numbers i 0)) within refl)
          (subst (λ (x : Rect). HasPixel x r c) is in_cell) is_wanted pixel of;
    }

-- a part that a cell was copied into has the crop there
pub part_is : (P : Plane) (old new : Lent) (cell : Rect) → CopiesFrom old new (lent_crop P cell) old.rect
    → LiesIn cell old.rect → P.planes ≡ old.planes → new.planes ≡ old.planes
    → (part_of new cell).samples ≡ (crop P cell).samples
part_is P old new cell copies inside planes of =
    ap (λ (L : Lent). L.samples)
    (crop_of_part P new cell (record {
      planes = planes ∙ sym of;
      samples = λ r c p pixel plane.
          sym (copies.copied r c p (record {
            top = omega (arith, inside.top, pixel.top);
            bottom = omega (arith, inside.bottom, pixel.bottom);
            left = omega (arith, inside.left, pixel.left);
            right = omega (arith, inside.right, pixel.right);
          }) pixel
          (subst (λ (m : ℕ). p < m) planes plane)
          ∙ crop_at P cell r c p pixel plane);
    }))

-- right cells have the sizes of their rectangles
pub sizes_of : (held : Held) (plane planes : ℕ) (cells : List Rect) (numbers : List ℕ) (rects : List Rect)
    → ((k : ℕ) → k < length cells → held.holds plane k ≡ true → length (held.samples plane k)
    ≡ area_of (cell_at cells k) * planes)
    → rects ≡ cells_at cells numbers → All (λ k. k < length cells) numbers → HaveSizes held plane planes numbers rects
sizes_of held plane planes cells numbers rects sizes are below = λ i within now.
    let is : cell_at rects i ≡ cell_at cells (get_or numbers i 0) = ap (λ (xs : List Rect). cell_at xs i) are
    ∙ get_or-map (cell_at cells) numbers i 0 no_rect within in
    sizes (get_or numbers i 0) (below i 0 within) now ∙ ap (λ (x : Rect). area_of x * planes) (sym is)

-- the rectangle of a cell is the one under its number
pub cell_here : (cells : List Rect) (numbers : List ℕ) (i : ℕ) (cell : Rect) → slice_get cells (get_or numbers i 0)
    ≡ Some cell → cell ≡ cell_at cells (get_or numbers i 0)
cell_here cells numbers i cell at = sym (get_or_from_slice_get cells (get_or numbers i 0) cell no_rect at)

-- what is told of the cell under the next number
pub cell_told : (Q : Rect → Type 0) (cells : List Rect) (numbers : List ℕ) (i : ℕ) (cell : Rect)
    → All (λ k. Q (cell_at cells k)) numbers → i < length numbers → cell ≡ cell_at cells (get_or numbers i 0) → Q cell
cell_told Q cells numbers i cell all within is = subst Q (sym is) (all i 0 within)

-- what holds of the rectangles of cells holds of those of the missing ones, by their numbers
pub missing_told : (Q : Rect → Type 0) (cells : List Rect) (held : Held) (plane : ℕ) (numbers : List ℕ)
    → All Q (cells_at cells numbers) → All (λ k. Q (cell_at cells k)) (missing held plane numbers)
missing_told Q cells held plane numbers all =
    All-filter (λ k. not (held.holds plane k)) (λ k. Q (cell_at cells k)) numbers
    (λ i d within. subst Q (get_or-map (cell_at cells) numbers i d (cell_at cells d) within)
    (all i (cell_at cells d) (omega (arith, within, length-map numbers (cell_at cells)))))
