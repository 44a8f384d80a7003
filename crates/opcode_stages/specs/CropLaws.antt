-- Laws of crops as stages: this project's own.
use Rattle.std.proofs.Common.{◌≡◌, ◌+◌, true, ap, subst, arith, Decides}
use Rattle.plane_view.specs.declared.Rect.{Rect}
use Rattle.plane_view.specs.declared.Shape.{Shape}
use Rattle.plane_view.specs.Plane.{crop}
use Rattle.plane_view.specs.Rectangles.{shifted}
use Rattle.plane_view.specs.Shapes.{IsShape}
use Rattle.stage_core.specs.Planes.{IsPart}
use Rattle.stage_core.specs.Stages.{AreAlike, RestsOn}
use Rattle.opcode_stages.specs.declared.crop.Crop.{Crop}
use Rattle.opcode_stages.specs.contracts.crop.CropPartialEq.TheImpl.{ghosts}
use Rattle.opcode_stages.specs.Crops.{cropped_to, cropped_shape, cropped_at}
use Rattle.opcode_stages.specs.Equality.{rect_equality}

-- the crop of a shape to a part of it is a shape
pub crop_shapes : (q : Rect) (input : Shape) → IsShape input → IsPart q input → IsShape (cropped_shape q input)
crop_shapes q input is part =
    record {
      some_rows = omega arith;
      rows = omega arith;
      some_cols = omega arith;
      cols = omega arith;
      some_planes = omega arith;
      planes = omega arith;
    }

-- what a crop needs for a part of its plane is a part of the plane below
pub crop_needs : (q : Rect) (input : Shape) (rect : Rect) → IsPart q input → IsPart rect (cropped_shape q input)
    → IsPart (shifted rect q.top q.left) input
crop_needs q input rect part inner =
    record {
      some = record { rows = omega arith; cols = omega arith };
      inside = record { top = omega arith; bottom = omega arith; left = omega arith; right = omega arith };
    }

-- a sample of a crop is one of the part that it needs
pub crop_rests : (q : Rect) (input : Shape) (rect : Rect)
    → RestsOn (cropped_at q) input.planes (shifted rect q.top q.left) input.planes rect
crop_rests q input rect = record {
  same = λ f g agree r c p pixel plane. agree (q.top + r) (q.left + c) p
      (record { top = omega arith; bottom = omega arith; left = omega arith; right = omega arith }) plane;
}

-- two crops are equal exactly where their rectangles are
pub crop_equality : (s t : Crop) → Decides (ghosts.eq s t) (cropped_to s ≡ cropped_to t)
crop_equality s t = rect_equality s.rect t.rect

-- equal crops are alike
pub crop_alike : (s t : Crop) → ghosts.eq s t ≡ true
    → AreAlike (λ (s : Crop). IsPart s.rect) (λ (s : Crop). cropped_shape s.rect)
    (λ (s : Crop) input rect. shifted rect s.rect.top s.rect.left) (λ (s : Crop) P. crop P s.rect) s t
crop_alike s t equal =
    let same : cropped_to s ≡ cropped_to t = (crop_equality s t).0 equal in
    record {
      inputs = λ input takes. subst (λ (q : Rect). IsPart q input) same takes;
      shapes = λ input. ap (λ (q : Rect). cropped_shape q input) same;
      needs = λ input rect. ap (λ (q : Rect). shifted rect q.top q.left) same;
      meanings = λ P. ap (λ (q : Rect). crop P q) same;
    }
