-- Lent parts of planes: what a contract sees of a view. This is this project's own; the order of samples is that of
-- TIFF 6.0, section 8, "PlanarConfiguration" 1.
use Rattle.std.specs.Prelude.{◌≡◌, ℕ, ◌+◌, ◌-◌, ◌*◌, ◌<◌, ◌≤◌, List, length, slice_index}
use Rattle.plane_view.specs.declared.Rect.{Rect}
use Rattle.plane_view.specs.Plane.{Plane, place, sample, samples_of, crop}
use Rattle.plane_view.specs.Rectangles.{HasPixel, height, width, area_of}

-- a rectangle, a number of planes, and the samples of the rectangle's pixels
pub record Lent : Type 0 where
  pub rect : Rect
  pub planes : ℕ
  pub samples : List ℕ

-- where the sample at row r, column c of plane p stands among the samples of a rectangle
abbrev pub place_in : (rect : Rect) (planes r c p : ℕ) → ℕ
place_in rect planes r c p = place (width rect) planes (r - rect.top) (c - rect.left) p

-- the sample at row r, column c of plane p
abbrev pub sample_at : Lent → ℕ → ℕ → ℕ → ℕ
sample_at L r c p = slice_index L.samples (place_in L.rect L.planes r c p)

-- the part over a rectangle whose sample at (r, c, p) is f r c p
abbrev pub lent_of : Rect → ℕ → (ℕ → ℕ → ℕ → ℕ) → Lent
lent_of rect planes f =
    record {
      rect = rect;
      planes = planes;
      samples = samples_of (height rect) (width rect) planes (λ r c p. f (rect.top + r) (rect.left + c) p);
    }

-- the part of a part that lies in a rectangle
abbrev pub part_of : Lent → Rect → Lent
part_of L rect = lent_of rect L.planes (sample_at L)

-- the crop of a plane to a rectangle, lent
abbrev pub lent_crop : Plane → Rect → Lent
lent_crop P rect = record { rect = rect; planes = P.planes; samples = (crop P rect).samples }

-- row r lies in the rectangle, whose left edge is not past its right one
pub record HasRow (rect : Rect) (r : ℕ) : Type 0 where
  pub top : rect.top ≤ r
  pub bottom : r < rect.bottom
  pub cols : rect.left ≤ rect.right

-- the pixels of row r from one column up to another lie in the rectangle
pub record HasRowPart (rect : Rect) (r from to : ℕ) : Type 0 where
  pub top : rect.top ≤ r
  pub bottom : r < rect.bottom
  pub left : rect.left ≤ from
  pub order : from ≤ to
  pub right : to ≤ rect.right

-- a list has the samples of row r from column left up to column right, the planes of a pixel side by side
pub record IsRowPart (xs : List ℕ) (L : Lent) (r left right : ℕ) : Type 0 where
  pub long : length xs ≡ (right - left) * L.planes
  pub samples : (c p : ℕ) → left ≤ c → c < right → p < L.planes → slice_index xs ((c - left) * L.planes + p)
      ≡ sample_at L r c p

-- the part has a sample for each place
abbrev pub IsFull : Lent → Type 0
IsFull L = length L.samples ≡ area_of L.rect * L.planes

-- a plane and a part have the same samples at the pixels of a rectangle
pub record AgreesWith (P : Plane) (L : Lent) (rect : Rect) : Type 0 where
  pub planes : P.planes ≡ L.planes
  pub samples : (r c p : ℕ) → HasPixel rect r c → p < P.planes → sample P r c p ≡ sample_at L r c p
