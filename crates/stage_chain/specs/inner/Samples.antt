-- Definitions for the contracts between functions of this crate: the samples of planes of a shape. This is this
-- project's own.
use Rattle.std.specs.Prelude.{ℕ, ◌*◌, List}
use Rattle.plane_view.specs.declared.Shape.{Shape}
use Rattle.plane_view.specs.Plane.{Plane}

-- how many samples a plane of a shape has
abbrev pub sample_count : Shape → ℕ
sample_count shape = shape.rows * shape.cols * shape.planes

-- the plane of a shape with these samples
abbrev pub plane_with : Shape → List ℕ → Plane
plane_with shape samples = record { rows = shape.rows; cols = shape.cols; planes = shape.planes; samples = samples }
