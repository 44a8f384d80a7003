-- Lists of bad pixels: this project's own.
use Rattle.std.specs.Prelude.{ℕ, Bool, nat_eq, ◌&&◌, List}
use Rattle.std.specs.Cmp.Lexicographic.{pointwise}
use Rattle.plane_view.specs.declared.Rect.{Rect}

-- the phase, the points and the rectangles
pub record BadPixels : Type 0 where
  pub phase : ℕ
  pub points : List (ℕ × ℕ)
  pub rects : List Rect

-- whether two points have the same row and the same column
abbrev pub same_point : ℕ × ℕ → ℕ × ℕ → Bool
same_point p q = nat_eq p.0 q.0 && nat_eq p.1 q.1

-- whether two rectangles have the same edges
abbrev pub same_edges : Rect → Rect → Bool
same_edges s t =
    nat_eq s.top t.top && (nat_eq s.left t.left && (nat_eq s.bottom t.bottom && nat_eq s.right t.right))

-- whether two lists of bad pixels are the same
unfoldable pub same_pixels : BadPixels → BadPixels → Bool
same_pixels s t =
    (nat_eq s.phase t.phase && pointwise same_point s.points t.points) && pointwise same_edges s.rects t.rects
