-- Rectangles of pixels: half-open, rows top to bottom, columns left to right. This is this project's own.
use Rattle.std.specs.Prelude.{ℕ, ◌+◌, ◌-◌, ◌*◌, ◌<◌, ◌≤◌, nat_le, nat_lt, Bool, ◌&&◌}
use Rattle.std.proofs.Common.{min, max}
use Rattle.plane_view.specs.declared.Rect.{Rect}
use Rattle.plane_view.specs.Plane.{Plane}

-- the pixel at row r, column c is in the rectangle
pub record HasPixel (rect : Rect) (r c : ℕ) : Type 0 where
  pub top : rect.top ≤ r
  pub bottom : r < rect.bottom
  pub left : rect.left ≤ c
  pub right : c < rect.right

-- whether the pixel at row r, column c is in the rectangle
abbrev pub has_pixel : (r c : ℕ) → Rect → Bool
has_pixel r c rect = nat_le rect.top r && nat_lt r rect.bottom && nat_le rect.left c && nat_lt c rect.right

-- the rectangle has a pixel
pub record IsNonEmpty (rect : Rect) : Type 0 where
  pub rows : rect.top < rect.bottom
  pub cols : rect.left < rect.right

-- the first rectangle goes past no edge of the second
pub record LiesIn (inner outer : Rect) : Type 0 where
  pub top : outer.top ≤ inner.top
  pub bottom : inner.bottom ≤ outer.bottom
  pub left : outer.left ≤ inner.left
  pub right : inner.right ≤ outer.right

-- how many rows the rectangle has
abbrev pub height : Rect → ℕ
height rect = rect.bottom - rect.top

-- how many columns the rectangle has
abbrev pub width : Rect → ℕ
width rect = rect.right - rect.left

-- how many pixels the rectangle has
abbrev pub area_of : Rect → ℕ
area_of rect = height rect * width rect

-- the rectangle with each edge moved outwards by a number of pixels, but not past those of whole
abbrev pub grown : Rect → ℕ → Rect → Rect
grown rect by whole =
    record {
      top = max (rect.top - by) whole.top;
      left = max (rect.left - by) whole.left;
      bottom = min (rect.bottom + by) whole.bottom;
      right = min (rect.right + by) whole.right;
    }

-- two rows, or two columns, are at most so far apart
pub record AreNear (by i j : ℕ) : Type 0 where
  pub before : i ≤ j + by
  pub after : j ≤ i + by

-- the pixel at row r, column c is within so many rows and columns of a pixel of the rectangle
abbrev pub IsNearPixel : Rect → (by r c : ℕ) → Type 0
IsNearPixel rect by r c = (i j : ℕ) × HasPixel rect i j × AreNear by r i × AreNear by c j

-- the rectangle moved down and to the right
abbrev pub shifted : Rect → (down right : ℕ) → Rect
shifted rect down right =
    record { top = rect.top + down; left = rect.left + right; bottom = rect.bottom + down; right = rect.right + right }

-- the rectangle of a plane of this many rows and columns
abbrev pub whole_rect : (rows cols : ℕ) → Rect
whole_rect rows cols = record { top = 0; left = 0; bottom = rows; right = cols }

-- the rectangle of all pixels of a plane
abbrev pub rect_of : Plane → Rect
rect_of P = whole_rect P.rows P.cols
