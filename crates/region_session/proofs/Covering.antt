-- The cells that meet what is wanted cover it.
use Rattle.std.proofs.Common.{◌≡◌, ℕ, ◌-◌, ◌<◌, List, length, get_or, slice_get, Some, sym, ◌∙◌, ap, subst, arith}
use Rattle.std.specs.List.{All, Contains}
use Rattle.std.proofs.lemmas.List.{get_or_default, get_or-map, length-map}
use Rattle.std.proofs.lemmas.Option.{get_or_from_slice_get, slice_get-get_or, slice_get_within}
use Rattle.plane_view.specs.declared.Rect.{Rect}
use Rattle.plane_view.specs.declared.Shape.{Shape}
use Rattle.plane_view.specs.Plane.{Plane}
use Rattle.plane_view.specs.Rectangles.{HasPixel, LiesIn, has_pixel}
use Rattle.plane_view.specs.Lent.{Lent}
use Rattle.plane_view.proofs.Pixels.{pixel_of_test}
use Rattle.stage_core.specs.Bases.{MakeUp}
use Rattle.stage_core.specs.Planes.{IsPart}
use Rattle.stage_core.proofs.CellLemmas.{one_of_any}
use Rattle.stage_deps.specs.Cells.{cell_at, cells_at, meeting, no_rect}
use Rattle.stage_deps.proofs.Coverage.{meeting_among, meeting_bounds, meets_one_pixel}
use Rattle.region_session.specs.inner.Parts.{IsFilled, Shows}

-- one of the rectangles has the pixel
abbrev HasCell : List Rect → ℕ → ℕ → Type 0
HasCell rects r c = (i : ℕ) × (i < length rects) × HasPixel (cell_at rects i) r c

-- of the cells that meet what is wanted, one has each pixel of it
cell_of_wanted : (shape : Shape) (cells wanted : List Rect) (j : ℕ) (w : Rect) (r c : ℕ) → MakeUp cells shape
    → slice_get wanted j ≡ Some w → IsPart w shape → HasPixel w r c
    → HasCell (cells_at cells (meeting cells wanted)) r c
cell_of_wanted shape cells wanted j w r c up at part pixel =
    let inside = part.inside in
    let found = one_of_any (has_pixel r c) cells (up.covered r c (omega arith) (omega arith)) in
    let k : ℕ = found.0 in
    let cell : Rect = found.1 in
    let in_cell : HasPixel cell r c = pixel_of_test r c cell found.3 in
    let is : cell_at cells k ≡ cell = get_or_from_slice_get cells k cell no_rect found.2 in
    let within : k < length cells = slice_get_within cells k cell found.2 in
    let numbers : List ℕ = meeting cells wanted in
    let place : Contains numbers k =
    meeting_among cells wanted k within (meets_one_pixel wanted (cell_at cells k) w j r c at
    (subst (λ (x : Rect). HasPixel x r c) (sym is) in_cell) pixel) in
    let i : ℕ = place.0 in
    let number : get_or numbers i 0 ≡ k = get_or_default numbers i 0 k place.1 ∙ place.2 in
    let here : cell_at (cells_at cells numbers) i ≡ cell = get_or-map (cell_at cells) numbers i 0 no_rect place.1
    ∙ ap (cell_at cells) number ∙ is in (
      i,
      omega (arith, place.1, length-map numbers (cell_at cells)),
      subst (λ (x : Rect). HasPixel x r c) (sym here)
          in_cell,
    )

-- a rectangle whose first and last pixel are each in one of some rectangles lies in what these lie in
corners : (rects : List Rect) (outer w : Rect) → All (λ (rect : Rect). LiesIn rect outer) rects
    → HasCell rects w.top w.left → HasCell rects (w.bottom - 1) (w.right - 1) → LiesIn w outer
corners rects outer w lie first last =
    let one : Rect = cell_at rects first.0 in
    let other : Rect = cell_at rects last.0 in
    let lies_one : LiesIn one outer = lie first.0 no_rect first.1 in
    let lies_other : LiesIn other outer = lie last.0 no_rect last.1 in
    let has_one : HasPixel one w.top w.left = first.2 in
    let has_other : HasPixel other (w.bottom - 1) (w.right - 1) = last.2 in
    record {
      top = omega (arith, lies_one.top, has_one.top);
      bottom = omega (arith, lies_other.bottom, has_other.bottom);
      left = omega (arith, lies_one.left, has_one.left);
      right = omega (arith, lies_other.right, has_other.right);
    }

-- a part that is filled from the cells that meet what is wanted shows it
pub shows_wanted : (P : Plane) (L : Lent) (shape : Shape) (cells wanted : List Rect) → MakeUp cells shape
    → All (λ (rect : Rect). IsPart rect shape) wanted
    → All (λ (rect : Rect). LiesIn rect L.rect) (cells_at cells (meeting cells wanted))
    → IsFilled P L wanted (cells_at cells (meeting cells wanted)) → All (Shows P L) wanted
shows_wanted P L shape cells wanted up parts lie filled = λ j d below.
    let w : Rect = get_or wanted j d in
    let at : slice_get wanted j ≡ Some w = slice_get-get_or wanted j d below in
    let part : IsPart w shape = parts j d below in
    let some = part.some in
    let rects : List Rect = cells_at cells (meeting cells wanted) in
    let lies : LiesIn w L.rect = corners rects L.rect w lie
    (cell_of_wanted shape cells wanted j w w.top w.left up at part
    (record {
      top = omega arith;
      bottom = omega (arith, some.rows);
      left = omega arith;
      right = omega (arith, some.cols);
    }))
    (cell_of_wanted shape cells wanted j w (w.bottom - 1) (w.right - 1) up at part
    (record {
      top = omega (arith, some.rows);
      bottom = omega (arith, some.rows);
      left = omega (arith, some.cols);
      right = omega (arith, some.cols);
    })) in
    record {
      lies = lies;
      agrees = record {
        planes = filled.planes;
        samples = λ r c p pixel plane.
            let found = cell_of_wanted shape cells wanted j w r c up at part pixel in
            filled.samples found.0 r c p found.1 found.2
            (j, below, subst (λ (x : Rect). HasPixel x r c) (get_or_default wanted j d no_rect below) pixel)
            (record {
              top = omega (arith, pixel.top, lies.top);
              bottom = omega (arith, pixel.bottom, lies.bottom);
              left = omega (arith, pixel.left, lies.left);
              right = omega (arith, pixel.right, lies.right);
            }) plane;
      };
    }

-- the cells of numbers that are theirs are parts of the plane
pub cells_are_parts : (shape : Shape) (cells : List Rect) (numbers : List ℕ) → MakeUp cells shape
    → All (λ k. k < length cells) numbers → All (λ (rect : Rect). IsPart rect shape) (cells_at cells numbers)
cells_are_parts shape cells numbers up below = λ i d within.
    let inside : i < length numbers = omega (arith, length-map numbers (cell_at cells)) in
    let k : ℕ = get_or numbers i 0 in
    let is : get_or (cells_at cells numbers) i d ≡ cell_at cells k = get_or-map (cell_at cells) numbers i 0 d inside in
    subst (λ (x : Rect). IsPart x shape) (sym is)
    (up.part k (cell_at cells k) (slice_get-get_or cells k no_rect (below i 0 inside)))

-- the same of those that meet what is wanted
pub needed_are_parts : (shape : Shape) (cells wanted : List Rect) → MakeUp cells shape
    → All (λ (rect : Rect). IsPart rect shape) (cells_at cells (meeting cells wanted))
needed_are_parts shape cells wanted up = cells_are_parts shape cells (meeting cells wanted) up
    (meeting_bounds cells wanted)
