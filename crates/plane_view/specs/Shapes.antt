-- The shapes of planes, and their limits. This is this project's own.
use Rattle.std.specs.Prelude.{◌≡◌, ℕ, ◌<◌, ◌≤◌, ◌^◌}
use Rattle.plane_view.specs.declared.Shape.{Shape}
use Rattle.plane_view.specs.Plane.{Plane}

-- the most rows that a plane has, and the most columns
abbrev pub max_side : ℕ
max_side = 8192

-- the most pixels of a frame, and the most samples that are coded together
abbrev pub max_samples : ℕ
max_samples = 2 ^ 25

-- the most planes
abbrev pub max_planes : ℕ
max_planes = 3

-- a shape within the limits
pub record IsShape (s : Shape) : Type 0 where
  pub some_rows : 0 < s.rows
  pub rows : s.rows ≤ max_side
  pub some_cols : 0 < s.cols
  pub cols : s.cols ≤ max_side
  pub some_planes : 0 < s.planes
  pub planes : s.planes ≤ max_planes

-- the plane has this shape
pub record HasShape (P : Plane) (s : Shape) : Type 0 where
  pub rows : P.rows ≡ s.rows
  pub cols : P.cols ≡ s.cols
  pub planes : P.planes ≡ s.planes
