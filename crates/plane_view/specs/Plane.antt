-- Planes of samples, and parts of them. The order of samples is that of TIFF 6.0, section 8, "PlanarConfiguration" 1:
-- row by row, the samples of a pixel side by side.
use Rattle.std.specs.Prelude.{◌≡◌, ℕ, ◌+◌, ◌-◌, ◌*◌, ◌/◌, ◌%◌, List, length, map, slice_index}
use Rattle.std.specs.List.{range_with_len}
use Rattle.plane_view.specs.declared.Rect.{Rect}
use Rattle.plane_view.specs.declared.Shape.{Shape}

-- rows, columns, the number of planes, and the samples
pub record Plane : Type 0 where
  pub rows : ℕ
  pub cols : ℕ
  pub planes : ℕ
  pub samples : List ℕ

-- where the sample at row r, column c of plane p stands, in rows of cols pixels of some planes
abbrev pub place : (cols planes r c p : ℕ) → ℕ
place cols planes r c p = (r * cols + c) * planes + p

-- the sample at row r, column c of plane p
abbrev pub sample : Plane → ℕ → ℕ → ℕ → ℕ
sample P r c p = slice_index P.samples (place P.cols P.planes r c p)

-- the samples of a plane of this shape whose sample at (r, c, p) is f r c p
unfoldable pub samples_of : (rows cols planes : ℕ) → (ℕ → ℕ → ℕ → ℕ) → List ℕ
samples_of rows cols planes f =
    map (λ i. f (i / planes / cols) (i / planes % cols) (i % planes)) (range_with_len 0 (rows * cols * planes))

-- the plane of this shape whose sample at (r, c, p) is f r c p
abbrev pub plane_of : (rows cols planes : ℕ) → (ℕ → ℕ → ℕ → ℕ) → Plane
plane_of rows cols planes f =
    record { rows = rows; cols = cols; planes = planes; samples = samples_of rows cols planes f }

-- the plane has a sample for each place
abbrev pub IsWhole : Plane → Type 0
IsWhole P = length P.samples ≡ P.rows * P.cols * P.planes

-- the crop of a plane to a rectangle
abbrev pub crop : Plane → Rect → Plane
crop P rect =
    plane_of (rect.bottom - rect.top) (rect.right - rect.left) P.planes
    (λ r c p. sample P (rect.top + r) (rect.left + c) p)

-- the shape of a plane of red, green and blue, of as many rows and columns
abbrev pub coloured : Shape → Shape
coloured s = record { rows = s.rows; cols = s.cols; planes = 3 }
