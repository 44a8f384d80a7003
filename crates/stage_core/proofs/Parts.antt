-- Laws of parts of planes.
use Rattle.std.proofs.Common.{ℕ, arith}
use Rattle.plane_view.specs.declared.Rect.{Rect}
use Rattle.plane_view.specs.declared.Shape.{Shape}
use Rattle.plane_view.specs.Rectangles.{grown, whole_rect}
use Rattle.stage_core.specs.Planes.{IsPart}

-- a part of a plane, grown by some pixels, is a part of each plane of as many rows and columns
pub grown_is_part : (by planes : ℕ) (input : Shape) (rect : Rect)
    → IsPart rect (record { rows = input.rows; cols = input.cols; planes = planes })
    → IsPart (grown rect by (whole_rect input.rows input.cols)) input
grown_is_part by planes input rect part =
    record {
      some = record { rows = omega arith; cols = omega arith };
      inside = record { top = omega arith; bottom = omega arith; left = omega arith; right = omega arith };
    }
