-- Whole planes, and the parts of them that have pixels. This is this project's own.
use Rattle.plane_view.specs.declared.Rect.{Rect}
use Rattle.plane_view.specs.declared.Shape.{Shape}
use Rattle.plane_view.specs.Plane.{Plane, IsWhole}
use Rattle.plane_view.specs.Rectangles.{IsNonEmpty, LiesIn, whole_rect}
use Rattle.plane_view.specs.Shapes.{HasShape}

-- the plane has this shape, and a sample for each place
pub record IsPlane (P : Plane) (s : Shape) : Type 0 where
  pub whole : IsWhole P
  pub shape : HasShape P s

-- the rectangle has a pixel, and lies in a plane of this shape
pub record IsPart (rect : Rect) (s : Shape) : Type 0 where
  pub some : IsNonEmpty rect
  pub inside : LiesIn rect (whole_rect s.rows s.cols)
