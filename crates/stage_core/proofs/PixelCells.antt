-- A plane of one row, of which each pixel is a cell: the base of the tests.
use Rattle.std.proofs.Common.{◌≡◌, ℕ, ◌+◌, ◌<◌, ◌≤◌, List, Some, length, map, slice_get, sym, ap, ◌∙◌, subst, arith}
use Rattle.std.specs.List.{range_with_len}
use Rattle.std.proofs.lemmas.List.FromFn.{get_or-map-range_with_len, length-map-range_with_len}
use Rattle.std.proofs.lemmas.Map.Keys.{any_passes_from_place}
use Rattle.std.proofs.lemmas.Option.{same_Some, slice_get-get_or, slice_get_within}
use Rattle.plane_view.specs.declared.Rect.{Rect}
use Rattle.plane_view.specs.Rectangles.{HasPixel, has_pixel}
use Rattle.plane_view.proofs.Pixels.{has_pixel-true}
use Rattle.stage_core.specs.Bases.{AreCells}
use Rattle.stage_core.specs.Planes.{IsPart}

abbrev pixel : ℕ → Rect
pixel k = record { top = 0; left = k; bottom = 1; right = k + 1 }

abbrev pub pixels : ℕ → List Rect
pixels n = map (λ k. record { top = 0; left = k; bottom = 1; right = k + 1 }) (range_with_len 0 n)

pub count_of_pixels : (n : ℕ) → n ≡ length (pixels n)
count_of_pixels n = sym (length-map-range_with_len pixel 0 n)

pub pixel_at : (n k : ℕ) → k < length (pixels n) → slice_get (pixels n) k ≡ Some (pixel k)
pixel_at n k h =
    let within : k < n = omega (arith, count_of_pixels n) in
    slice_get-get_or (pixels n) k (pixel 0) h
    ∙ ap Some (get_or-map-range_with_len pixel 0 n k k (pixel 0) within (omega arith))

pixel_is : (n k : ℕ) (rect : Rect) → slice_get (pixels n) k ≡ Some rect → (k < n) × (pixel k ≡ rect)
pixel_is n k rect e =
    let within = slice_get_within (pixels n) k rect e in
    (omega (arith, count_of_pixels n), same_Some (pixel k) rect (sym (pixel_at n k within) ∙ e))

pub pixels_are_cells : (n : ℕ) → 0 < n → n ≤ 8192 → AreCells (pixels n) (record { rows = 1; cols = n; planes = 1 })
pixels_are_cells n some few =
    let count = count_of_pixels n in
    record {
      some = omega arith;
      most = omega arith;
      plane = record {
        part = λ k rect e.
            let is = pixel_is n k rect e in
            let P : Rect → Type 0 = λ r. IsPart r (record { rows = 1; cols = n; planes = 1 }) in
            let within : k < n = is.0 in
            subst P is.1 (record {
              some = record { rows = omega arith; cols = omega arith };
              inside = record { top = omega arith; bottom = omega arith; left = omega arith; right = omega arith };
            });
        covered = λ r c hr hc. any_passes_from_place (has_pixel r c) (pixels n) c (pixel c) (pixel_at n c (omega arith))
            (has_pixel-true r c (pixel c) (record {
              top = omega arith;
              bottom = hr;
              left = omega arith;
              right = omega arith;
            }));
        apart = λ i k one other ei ek r c in_one in_other.
            let a = subst (λ (x : Rect). HasPixel x r c) (sym (pixel_is n i one ei).1) in_one in
            let b = subst (λ (x : Rect). HasPixel x r c) (sym (pixel_is n k other ek).1) in_other in
            omega (arith, a.left, a.right, b.left, b.right);
      };
    }
