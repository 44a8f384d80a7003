-- Laws of demosaicing as a stage: this project's own.
use Rattle.std.proofs.Common.{ℕ, ◌+◌, List, sym, ◌∙◌, ap, arith}
use Rattle.plane_view.specs.declared.Rect.{Rect}
use Rattle.plane_view.specs.declared.Shape.{Shape}
use Rattle.plane_view.specs.Plane.{coloured}
use Rattle.plane_view.specs.Rectangles.{grown, whole_rect}
use Rattle.plane_view.specs.Shapes.{IsShape}
use Rattle.stage_core.specs.Planes.{IsPart}
use Rattle.stage_core.specs.Stages.{RestsOn}
use Rattle.malvar.specs.Pattern.{colour_at}
use Rattle.malvar.specs.declared.Kind.{Kind}
use Rattle.malvar.specs.Demosaic.{table_of, reach_of, demosaiced_at}
use Rattle.malvar.specs.inner.Around.{sample_by}
use Rattle.malvar.specs.Mosaics.{IsMosaic}
use Rattle.malvar.specs.inner.AroundLaws.{sample_is, around_rests, reaches}

-- the shape of a demosaiced plane is a shape
pub coloured_is_shape : (input : Shape) → IsShape input → IsShape (coloured input)
coloured_is_shape input is =
    record {
      some_rows = is.some_rows;
      rows = is.rows;
      some_cols = is.some_cols;
      cols = is.cols;
      some_planes = omega arith;
      planes = omega arith;
    }

-- a demosaiced sample rests on those as far away as the kind reaches
pub reads_near : (kind : Kind) (cfa : List ℕ) (input : Shape) (rect : Rect) → IsMosaic input
    → IsPart rect (coloured input)
    → RestsOn (demosaiced_at (table_of kind) cfa input.rows input.cols) input.planes
    (grown rect (reach_of kind) (whole_rect input.rows input.cols)) 3 rect
reads_near kind cfa input rect takes part = record {
  same = λ f g agree r c p pixel plane.
      let reach = reaches kind in
      sample_is kind cfa input.rows input.cols f r c p (omega arith) (omega arith)
      ∙ ap (λ a. sample_by (table_of kind) (colour_at cfa r c) (colour_at cfa r (c + 1)) a p)
      (around_rests (reach_of kind) input.rows input.cols f g rect r c takes.rows takes.cols reach.0 reach.1
      (omega arith) (omega arith) pixel (λ i j there. agree i j 0 there (omega arith)))
      ∙ sym (sample_is kind cfa input.rows input.cols g r c p (omega arith) (omega arith));
}
