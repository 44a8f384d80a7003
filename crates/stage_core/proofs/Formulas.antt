-- Stages whose plane is given by a formula of a sample, from samples by place.
use Rattle.std.proofs.Common.{◌≡◌, ℕ, ◌<◌, refl, sym, ◌∙◌, ap, subst, arith}
use Rattle.plane_view.specs.declared.Rect.{Rect}
use Rattle.plane_view.specs.declared.Shape.{Shape}
use Rattle.plane_view.specs.declared.tiles.TileMut.{TileMut}
use Rattle.plane_view.specs.Plane.{Plane, sample}
use Rattle.plane_view.specs.Rectangles.{HasPixel}
use Rattle.plane_view.specs.Rows.{HasSamples}
use Rattle.plane_view.specs.Lent.{Lent, lent_crop, sample_at, AgreesWith}
use Rattle.plane_view.specs.Tiles.{loan, tile_rect, SameLoan}
use Rattle.plane_view.proofs.Samples.{length-samples_of, get_or-samples_of}
use Rattle.plane_view.proofs.Agreement.{agrees_with_crop, agree_at}
use Rattle.stage_core.specs.Planes.{IsPlane, IsPart}
use Rattle.stage_core.specs.Stages.{shape_of, plane_by, Makes, IsLocal, AreAlike, RestsOn}

-- the plane that a formula gives of a plane
abbrev pub by_formula : (Shape → Shape) → (Shape → (ℕ → ℕ → ℕ → ℕ) → ℕ → ℕ → ℕ → ℕ) → Plane → Plane
by_formula shaped formula P = plane_by (shaped (shape_of P)) (formula (shape_of P) (sample P))

-- a plane of a shape has that shape
pub shape_is : (P : Plane) (s : Shape) → IsPlane P s → shape_of P ≡ s
shape_is P s is = λ i. record { rows = is.shape.rows i; cols = is.shape.cols i; planes = is.shape.planes i }

-- a sample of a plane that a function of the place gives
pub sample_by : (s : Shape) (f : ℕ → ℕ → ℕ → ℕ) (rect : Rect) (r c p : ℕ) → IsPart rect s → HasPixel rect r c
    → p < s.planes → sample (plane_by s f) r c p ≡ f r c p
sample_by s f rect r c p part pixel plane = get_or-samples_of s.rows s.cols s.planes f r c p (omega arith) (omega arith)
    plane

-- the plane of a formula is a whole plane
pub planes_by : (shaped : Shape → Shape) (formula : Shape → (ℕ → ℕ → ℕ → ℕ) → ℕ → ℕ → ℕ → ℕ) (input : Shape) (P : Plane)
    → IsPlane P input → IsPlane (by_formula shaped formula P) (shaped input)
planes_by shaped formula input P is =
    subst (λ (s : Shape). IsPlane (by_formula shaped formula P) (shaped s)) (shape_is P input is)
    (record {
      whole = length-samples_of (shaped (shape_of P)).rows (shaped (shape_of P)).cols (shaped (shape_of P)).planes
          (formula (shape_of P) (sample P));
      shape = record { rows = refl; cols = refl; planes = refl };
    })

-- a formula that rests on a rectangle is local
pub local_by : (shaped : Shape → Shape) (formula : Shape → (ℕ → ℕ → ℕ → ℕ) → ℕ → ℕ → ℕ → ℕ) (input : Shape)
    (need rect : Rect) → IsPart rect (shaped input)
    → RestsOn (formula input) input.planes need (shaped input).planes rect
    → IsLocal (by_formula shaped formula) input need rect
local_by shaped formula input need rect part rests P Q is_P is_Q agrees =
    let of_P : Plane = plane_by (shaped input) (formula input (sample P)) in
    let of_Q : Plane = plane_by (shaped input) (formula input (sample Q)) in
    let now : AgreesWith of_P (lent_crop of_Q rect) rect =
    agrees_with_crop of_P of_Q rect refl
    (λ r c p pixel plane.
    sample_by (shaped input) (formula input (sample P)) rect r c p part pixel plane
    ∙ rests.same (sample P) (sample Q)
    (λ r' c' p' there plane'. agree_at P Q need r' c' p' agrees there
    (subst (λ (n : ℕ). p' < n) (sym is_P.shape.planes) plane')) r c p pixel plane
    ∙ sym (sample_by (shaped input) (formula input (sample Q)) rect r c p part pixel plane)) in
    subst (λ (s : Shape). AgreesWith (plane_by (shaped s) (formula s (sample P)))
    (lent_crop (by_formula shaped formula Q) rect) rect) (sym (shape_is P input is_P))
    (subst (λ (s : Shape). AgreesWith of_P (lent_crop (plane_by (shaped s) (formula s (sample Q))) rect) rect)
    (sym (shape_is Q input is_Q)) now)

-- a tile that was written by a formula that rests on a rectangle
pub made_by : (shaped : Shape → Shape) (formula : Shape → (ℕ → ℕ → ℕ → ℕ) → ℕ → ℕ → ℕ → ℕ) (whole : Shape) (L : Lent)
    (need : Rect) (first now : TileMut)
    → IsPart (tile_rect first) (shaped whole) → L.planes ≡ whole.planes → (loan first).planes ≡ (shaped whole).planes
    → RestsOn (formula whole) whole.planes need (shaped whole).planes (tile_rect first)
    → SameLoan first now → HasSamples (formula whole (sample_at L)) (loan now) (tile_rect first)
    → Makes (by_formula shaped formula) whole L need now
made_by shaped formula whole L need first now part inputs outputs rests same has P is agrees =
    let of_P : Plane = plane_by (shaped whole) (formula whole (sample P)) in
    let made : AgreesWith of_P (loan now) (tile_rect first) = record {
      planes = sym (same.planes ∙ outputs);
      samples = λ r c p pixel plane.
          sample_by (shaped whole) (formula whole (sample P)) (tile_rect first) r c p part pixel plane
          ∙ rests.same (sample P) (sample_at L)
          (λ r' c' p' there plane'. agrees.samples r' c' p' there
          (subst (λ (n : ℕ). p' < n) (sym is.shape.planes) plane')) r c p pixel plane
          ∙ sym (has.samples r c p pixel (subst (λ (n : ℕ). p < n) (sym (same.planes ∙ outputs)) plane));
    } in
    subst (λ (x : Rect). AgreesWith (by_formula shaped formula P) (loan now) x) (sym same.rect)
    (subst (λ (s : Shape). AgreesWith (plane_by (shaped s) (formula s (sample P))) (loan now) (tile_rect first))
    (sym (shape_is P whole is)) made)

-- equal stages are alike
pub alike_same : {S : Type 0} (takes : S → Shape → Type 0) (shaped : S → Shape → Shape)
    (needed : S → Shape → Rect → Rect) (apply : S → Plane → Plane) (s t : S) → s ≡ t
    → AreAlike takes shaped needed apply s t
alike_same {S = S} takes shaped needed apply s t same =
    record {
      inputs = λ input takes_s. subst (λ (x : S). takes x input) same takes_s;
      shapes = λ input. ap (λ (x : S). shaped x input) same;
      needs = λ input rect. ap (λ (x : S). needed x input rect) same;
      meanings = λ P. ap (λ (x : S). apply x P) same;
    }
