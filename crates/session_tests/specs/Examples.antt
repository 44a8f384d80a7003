-- Laws of the stage of the examples: it makes the plane that it is given, and asks for some pixels more on each side.
use Rattle.std.proofs.Common.{◌≡◌, ℕ, ◌≤◌, true, ◌&&◌, ap, subst, arith}
use Rattle.std.proofs.Math.Dec.{eqb}
use Rattle.std.proofs.lemmas.Bool.{and_parts, eqb-true}
use Rattle.plane_view.specs.declared.Rect.{Rect}
use Rattle.plane_view.specs.declared.Shape.{Shape}
use Rattle.plane_view.specs.Rectangles.{HasPixel, grown, whole_rect}
use Rattle.plane_view.proofs.Agreement.{agree_at, agrees_with_crop}
use Rattle.stage_core.specs.Planes.{IsPart}
use Rattle.stage_core.specs.Stages.{IsLocal}

-- a rectangle with a margin, within the plane
abbrev pub margin : ℕ → Shape → Rect → Rect
margin by input rect = grown rect by (whole_rect input.rows input.cols)

-- a part with a margin, within the plane, is a part
pub margin_part : (by : ℕ) (input : Shape) (rect : Rect) → IsPart rect input → IsPart (margin by input rect) input
margin_part by input rect part =
    let some = part.some in
    let inside = part.inside in
    record {
      some = record { rows = omega arith; cols = omega arith };
      inside = record { top = omega arith; bottom = omega arith; left = omega arith; right = omega arith };
    }

-- a pixel of a rectangle is one of it with its margin
pub margin_pixel : (by : ℕ) (input : Shape) (rect : Rect) (r c : ℕ) → IsPart rect input → HasPixel rect r c
    → HasPixel (margin by input rect) r c
margin_pixel by input rect r c part pixel =
    let inside = part.inside in
    record { top = omega arith; bottom = omega arith; left = omega arith; right = omega arith }

-- the plane as it is, on a part, rests on the part with its margin
pub margin_local : (by : ℕ) (input : Shape) (rect : Rect) → IsPart rect input
    → IsLocal (λ P. P) input (margin by input rect) rect
margin_local by input rect part P Q is_P is_Q agrees =
    agrees_with_crop P Q rect agrees.planes (λ r c p pixel plane. agree_at P Q (margin by input rect) r c p agrees
    (margin_pixel by input rect r c part pixel) plane)

-- equal margins ask for the same
pub same_margin : (one other most limit : ℕ) (input : Shape) (rect : Rect) → (eqb one other && eqb most limit) ≡ true
    → margin one input rect ≡ margin other input rect
same_margin one other most limit input rect same =
    let is : one ≡ other = eqb-true one other (and_parts (eqb one other) (eqb most limit) same).0 in
    ap (λ (by : ℕ). margin by input rect) is

-- equal limits take the same
pub same_most : (one other most limit rows : ℕ) → (eqb one other && eqb most limit) ≡ true → rows ≤ most → rows ≤ limit
same_most one other most limit rows same below =
    let is : most ≡ limit = eqb-true most limit (and_parts (eqb one other) (eqb most limit) same).1 in
    subst (λ (n : ℕ). rows ≤ n) is below
