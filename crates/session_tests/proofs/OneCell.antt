-- A plane that is one cell.
use Rattle.std.proofs.Common.{◌≡◌, ℕ, zero, suc, [], ◌∷◌, slice_get, Some, refl, subst, arith}
use Rattle.std.proofs.lemmas.Option.{none-some, same_Some}
use Rattle.plane_view.specs.declared.Rect.{Rect}
use Rattle.plane_view.specs.declared.Shape.{Shape}
use Rattle.plane_view.specs.Rectangles.{whole_rect}
use Rattle.plane_view.specs.Shapes.{IsShape}
use Rattle.plane_view.proofs.Pixels.{has_pixel-true}
use Rattle.stage_core.specs.Bases.{AreCells}
use Rattle.stage_core.specs.Planes.{IsPart}

only : (whole rect : Rect) (k : ℕ) → slice_get (whole ∷ []) k ≡ Some rect → (k ≡ 0) × (whole ≡ rect)
only whole rect zero at = (refl, same_Some whole rect at)
only whole rect (suc k) at = absurd (none-some rect at)

pub one_cell : (s : Shape) → IsShape s → AreCells (whole_rect s.rows s.cols ∷ []) s
one_cell s is = record {
  some = omega arith;
  most = omega arith;
  plane = record {
    part = λ k rect at. subst (λ (x : Rect). IsPart x s) (only (whole_rect s.rows s.cols) rect k at).1 (record {
      some = record { rows = is.some_rows; cols = is.some_cols };
      inside = record { top = omega arith; bottom = omega arith; left = omega arith; right = omega arith };
    });
    covered = λ r c row col. rw
        (has_pixel-true r c (whole_rect s.rows s.cols) (record {
          top = omega arith;
          bottom = row;
          left = omega arith;
          right = col;
        })) refl;
    apart = λ i k one other at_i at_k r c in_one in_other.
        let first = only (whole_rect s.rows s.cols) one i at_i in
        let second = only (whole_rect s.rows s.cols) other k at_k in
        omega (arith, first.0, second.0);
  };
}
