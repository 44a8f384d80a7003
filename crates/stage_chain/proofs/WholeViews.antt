-- Views and tiles over whole planes.
use Rattle.std.proofs.Common.{◌≡◌, ℕ, List, ◌++◌, length, take, drop, refl, sym, subst}
use Rattle.std.proofs.Math.Nat.{sub-zero}
use Rattle.std.proofs.Math.Seq.{take-append_seam}
use Rattle.plane_view.specs.declared.Rect.{Rect}
use Rattle.plane_view.specs.declared.Shape.{Shape}
use Rattle.plane_view.specs.Lent.{AgreesWith, Lent}
use Rattle.plane_view.specs.Plane.{Plane}
use Rattle.plane_view.specs.Rectangles.{whole_rect}
use Rattle.stage_core.specs.Planes.{IsPlane}
use Rattle.stage_chain.specs.inner.Samples.{plane_with, sample_count}

-- samples of a shape make a whole plane
pub whole_with : (shape : Shape) (samples : List ℕ) → length samples ≡ sample_count shape
    → IsPlane (plane_with shape samples) shape
whole_with shape samples long = record { whole = long; shape = record { rows = refl; cols = refl; planes = refl } }

-- the view of a whole plane agrees with it everywhere
pub whole_agrees : (shape : Shape) (samples : List ℕ) (V : Lent) (need : Rect)
    → V ≡ record { rect = whole_rect shape.rows shape.cols; planes = shape.planes; samples = samples }
    → AgreesWith (plane_with shape samples) V need
whole_agrees shape samples V need is =
    subst (λ (L : Lent). AgreesWith (plane_with shape samples) L need) (sym is) (record {
      planes = refl;
      samples = λ r c p pixel plane. simp sub-zero;
    })

-- a plane of a shape, by its samples
pub plane_is : (shape : Shape) (P : Plane) (samples : List ℕ) → IsPlane P shape → samples ≡ P.samples
    → plane_with shape samples ≡ P
plane_is shape P samples is same =
    λ i. record {
      rows = sym is.shape.rows i;
      cols = sym is.shape.cols i;
      planes = sym is.shape.planes i;
      samples = same i;
    }

-- a vector whose slice was written whole holds what was written
pub written_whole : (n : ℕ) (new old : List ℕ) → n ≡ length new → take n (new ++ drop (length new) old) ≡ new
written_whole n new old e = rw e (take-append_seam new (drop (length new) old))
