-- Cells of pixels.
use Rattle.std.proofs.Common.{◌≡◌, ℕ, suc, ◌<◌, Bool, true, List, [], ◌∷◌, Some, slice_get, inl, inr, refl}
use Rattle.std.specs.List.{list_any}
use Rattle.std.proofs.lemmas.Bool.{cases_Bool}
use Rattle.plane_view.specs.declared.Rect.{Rect}
use Rattle.plane_view.specs.declared.Shape.{Shape}
use Rattle.plane_view.specs.Rectangles.{HasPixel, has_pixel}
use Rattle.plane_view.proofs.Pixels.{pixel_of_test}
use Rattle.stage_core.specs.Bases.{AreCells}

-- an element that passes a test, by its number
pub one_of_any : {A : Type 0} (p : A → Bool) (xs : List A) → list_any p xs ≡ true → (k : ℕ) × (x : A)
    × (slice_get xs k ≡ Some x) × (p x ≡ true)
one_of_any p [] any = cc
one_of_any p (y ∷ ys) any =
    elim (cases_Bool (p y)) [
      | inl t ↦ (0, y, refl, t)
      | inr f ↦
          let rest : list_any p ys ≡ true = rw f at any in
          let found = one_of_any p ys rest in
          (suc found.0, found.1, found.2, found.3)
    ]

-- each pixel is in a cell
pub cell_of_pixel : (cells : List Rect) (s : Shape) (r c : ℕ) → AreCells cells s → r < s.rows → c < s.cols → (k : ℕ)
    × (rect : Rect) × (slice_get cells k ≡ Some rect) × HasPixel rect r c
cell_of_pixel cells s r c are hr hc =
    let found = one_of_any (has_pixel r c) cells (are.plane.covered r c hr hc) in
    (found.0, found.1, found.2, pixel_of_test r c found.1 found.3)
