-- Laws of agreement: parts with given samples, parts of a crop, and planes that agree with one.
use Rattle.std.proofs.Common.{◌≡◌, ℕ, ◌<◌, sym, ◌∙◌, ap, subst}
use Rattle.plane_view.specs.declared.Rect.{Rect}
use Rattle.plane_view.specs.Plane.{Plane, sample}
use Rattle.plane_view.specs.Rectangles.{HasPixel}
use Rattle.plane_view.specs.Lent.{Lent, sample_at, lent_of, part_of, lent_crop, IsFull, AgreesWith}
use Rattle.plane_view.specs.Rows.{HasSamples}
use Rattle.plane_view.proofs.Parts.{same_parts, lent_at, part_whole}

-- a full part with the samples f r c p is the part that f gives
pub part_of_function : (f : ℕ → ℕ → ℕ → ℕ) (L : Lent) → IsFull L → HasSamples f L L.rect → L ≡ lent_of L.rect L.planes f
part_of_function f L full has = sym (part_whole L full) ∙ same_parts L.rect L.planes (sample_at L) f has.samples

-- a part that agrees with a plane is the plane's crop
pub crop_of_part : (P : Plane) (L : Lent) (rect : Rect) → AgreesWith P L rect → part_of L rect ≡ lent_crop P rect
crop_of_part P L rect agrees =
    same_parts rect L.planes (sample_at L) (sample P)
    (λ r c p pixel plane. sym (agrees.samples r c p pixel (subst (λ (n : ℕ). p < n) (sym agrees.planes) plane)))
    ∙ ap (λ n. lent_of rect n (sample P)) (sym agrees.planes)

-- a full part that agrees with a plane is the plane's crop
pub crop_of_full : (P : Plane) (L : Lent) → IsFull L → AgreesWith P L L.rect → L ≡ lent_crop P L.rect
crop_of_full P L full agrees = sym (part_whole L full) ∙ crop_of_part P L L.rect agrees

-- the samples of a crop are the plane's
pub crop_at : (P : Plane) (rect : Rect) (r c p : ℕ) → HasPixel rect r c → p < P.planes
    → sample_at (lent_crop P rect) r c p ≡ sample P r c p
crop_at P rect r c p pixel plane = lent_at rect P.planes (sample P) r c p pixel plane

-- planes with the same samples at the pixels of a rectangle: the one agrees with the crop of the other
pub agrees_with_crop : (P Q : Plane) (rect : Rect) → P.planes ≡ Q.planes
    → ((r c p : ℕ) → HasPixel rect r c → p < P.planes → sample P r c p ≡ sample Q r c p)
    → AgreesWith P (lent_crop Q rect) rect
agrees_with_crop P Q rect planes same =
    record {
      planes = planes;
      samples = λ r c p pixel plane. same r c p pixel plane
          ∙ sym (crop_at Q rect r c p pixel (subst (λ (n : ℕ). p < n) planes plane));
    }

-- and then they have the same samples there
pub agree_at : (P Q : Plane) (rect : Rect) (r c p : ℕ) → AgreesWith P (lent_crop Q rect) rect → HasPixel rect r c
    → p < P.planes → sample P r c p ≡ sample Q r c p
agree_at P Q rect r c p agrees pixel plane =
    agrees.samples r c p pixel plane ∙ crop_at Q rect r c p pixel (subst (λ (n : ℕ). p < n) agrees.planes plane)
