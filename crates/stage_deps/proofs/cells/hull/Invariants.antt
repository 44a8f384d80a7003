use Rattle.std.proofs.Common.{take}
use Rattle.std.specs.List.{All}
use Rattle.plane_view.specs.declared.Rect.{Rect}
use Rattle.plane_view.specs.declared.Shape.{Shape}
use Rattle.plane_view.specs.Rectangles.{LiesIn, whole_rect}
use Rattle.stage_core.specs.Planes.{IsPart}
use Rattle.stage_deps.proofs.cells.hull.Given as goal

-- the rectangles so far lie in it, and it lies in the plane
abbrev pub invariant-loop-rect : goal.invariant-loop-rect
invariant-loop-rect l = record {
  all : All (λ (r : Rect). LiesIn r l.hull) (take l.rect-index l.rects);
  least : (outer : Rect) → All (λ (r : Rect). LiesIn r outer) l.rects → LiesIn l.hull outer;
  part : (s : Shape) → All (λ (r : Rect). IsPart r s) l.rects → LiesIn l.hull (whole_rect s.rows s.cols);
}
