-- Cells that are written into a part, and the crop that is copied from one.
use Rattle.std.proofs.Common.{◌≡◌, ℕ, ◌*◌, ◌<◌, ◌≤◌, List, ◌++◌, length, take, drop, sym, ◌∙◌, ap, subst, arith, ⊎_elim}
use Rattle.std.proofs.Common.{◌⊎◌, inl, inr}
use Rattle.std.proofs.lemmas.Bool.{cases_lt}
use Rattle.plane_view.specs.declared.Rect.{Rect}
use Rattle.plane_view.specs.declared.tiles.TileMut.{TileMut}
use Rattle.plane_view.specs.Plane.{Plane, crop}
use Rattle.plane_view.specs.Rectangles.{HasPixel, area_of}
use Rattle.plane_view.specs.Lent.{AgreesWith, Lent, lent_crop, sample_at}
use Rattle.plane_view.specs.Tiles.{CopiesFrom, SameLoan, loan, tile_rect}
use Rattle.plane_view.proofs.Agreement.{crop_at, crop_of_full}
use Rattle.region_session.specs.inner.Parts.{Shows, part_in}
use Rattle.stage_chain.proofs.WholeViews.{written_whole}

-- a tile that agrees with a plane on its rectangle, and is else as it was, has copied the crop
pub tile_copies : (Q : Plane) (first moved new : TileMut) (L : Lent) (cell : Rect) → loan first ≡ L
    → loan moved ≡ loan first → tile_rect moved ≡ cell → SameLoan moved new → Q.planes ≡ L.planes
    → AgreesWith Q (loan new) (tile_rect moved) → CopiesFrom L (loan new) (lent_crop Q cell) L.rect
tile_copies Q first moved new L cell lent same_lent is same planes agrees =
    let was : loan moved ≡ L = same_lent ∙ lent in
    record {
      copied = λ r c p inside here plane.
          let of_Q : p < Q.planes = subst (λ (n : ℕ). p < n) (sym planes) plane in
          sym (agrees.samples r c p (subst (λ (x : Rect). HasPixel x r c) (sym is) here) of_Q)
          ∙ sym (crop_at Q cell r c p here of_Q);
      others = λ r c p inside out plane.
          same.outside r c p (subst (λ (x : Lent). HasPixel x.rect r c) (sym was) inside)
          (λ here. out inside (subst (λ (x : Rect). HasPixel x r c) is here))
          (subst (λ (x : Lent). p < x.planes) (sym was) plane)
          ∙ ap (λ (x : Lent). sample_at x r c p) was;
    }

-- a pixel is in a rectangle or not
pub pixel_cases : (rect : Rect) (r c : ℕ) → HasPixel rect r c ⊎ (HasPixel rect r c → ⊥)
pixel_cases rect r c =
    ⊎_elim
    (λ (above : r < rect.top). inr (λ h. omega arith))
    (λ (top : rect.top ≤ r).
    ⊎_elim
    (λ (bottom : r < rect.bottom).
    ⊎_elim
    (λ (before : c < rect.left). inr (λ h. omega arith))
    (λ (left : rect.left ≤ c).
    ⊎_elim
    (λ (right : c < rect.right). inl (record { top = top; bottom = bottom; left = left; right = right }))
    (λ (after : rect.right ≤ c). inr (λ h. omega arith))
    (cases_lt c rect.right))
    (cases_lt c rect.left))
    (λ (under : rect.bottom ≤ r). inr (λ h. omega arith))
    (cases_lt r rect.bottom))
    (cases_lt r rect.top)

-- a part whose rectangle was copied from one that shows it is the crop
pub copied_crop : (P : Plane) (rect : Rect) (planes : ℕ) (old new : List ℕ) (from : Lent)
    → length new ≡ area_of rect * planes → planes ≡ P.planes
    → CopiesFrom (record { rect = rect; planes = planes; samples = old })
    (record { rect = rect; planes = planes; samples = new }) from rect → Shows P from rect
    → new ≡ (crop P rect).samples
copied_crop P rect planes old new from long same copies shows =
    let L : Lent = record { rect = rect; planes = planes; samples = new } in
    let inside = shows.lies in
    ap (λ (x : Lent). x.samples)
    (crop_of_full P L long (record {
      planes = sym same;
      samples = λ r c p pixel plane.
          let of_L : p < planes = subst (λ (n : ℕ). p < n) (sym same) plane in
          shows.agrees.samples r c p pixel plane
          ∙ sym (copies.copied r c p pixel (record {
            top = omega arith;
            bottom = omega arith;
            left = omega arith;
            right = omega arith;
          }) of_L);
    }))

-- the same of the slice that was lent
pub slice_copies : (Q : Plane) (L : Lent) (moved out : TileMut) (cell : Rect) (xs : List ℕ)
    → CopiesFrom L (loan out) (lent_crop Q cell) L.rect → loan moved ≡ L → SameLoan moved out → xs ≡ (loan out).samples
    → CopiesFrom L (record { rect = L.rect; planes = L.planes; samples = xs }) (lent_crop Q cell) L.rect
slice_copies Q L moved out cell xs copies was same samples =
    let rect : (loan out).rect ≡ L.rect = same.home ∙ ap (λ (x : Lent). x.rect) was in
    let planes : (loan out).planes ≡ L.planes = same.planes ∙ ap (λ (x : Lent). x.planes) was in
    let is : loan out ≡ record { rect = L.rect; planes = L.planes; samples = xs } =
    λ i. record { rect = rect i; planes = planes i; samples = sym samples i } in
    subst (λ (x : Lent). CopiesFrom L x (lent_crop Q cell) L.rect) is copies

-- the same of the memory that the slice is the first part of
pub memory_copies : (from L : Lent) (rect : Rect) (planes : ℕ) (items slice new given : List ℕ)
    → part_in rect planes items ≡ L → slice ≡ take (area_of rect * planes) items → take (area_of rect * planes) given
    ≡ new
    → CopiesFrom (record { rect = rect; planes = planes; samples = slice })
    (record { rect = rect; planes = planes; samples = new }) from rect
    → CopiesFrom L (part_in rect planes given) from L.rect
memory_copies from L rect planes items slice new given is first last copies =
    subst (λ (x : Lent). CopiesFrom x (part_in rect planes given) from x.rect) is
    (subst (λ (xs : List ℕ). CopiesFrom (record { rect = rect; planes = planes; samples = xs })
    (part_in rect planes given) from rect) first
    (subst (λ (xs : List ℕ). CopiesFrom (record { rect = rect; planes = planes; samples = slice })
    (record { rect = rect; planes = planes; samples = xs }) from rect) (sym last) copies))

-- the same of a vector that was lent whole
pub vector_copies : (from L : Lent) (rect : Rect) (planes len : ℕ) (items slice new : List ℕ)
    → part_in rect planes items ≡ L → slice ≡ items → len ≡ length new
    → CopiesFrom (part_in rect planes slice) (part_in rect planes new) from rect
    → CopiesFrom L (part_in rect planes (take len (new ++ drop (length new) items))) from L.rect
vector_copies from L rect planes len items slice new is lent long copies =
    subst (λ (x : Lent). CopiesFrom x (part_in rect planes (take len (new ++ drop (length new) items))) from x.rect) is
    (subst (λ (xs : List ℕ). CopiesFrom (part_in rect planes items) (part_in rect planes xs) from rect)
    (sym (written_whole len new items long))
    (subst (λ (xs : List ℕ). CopiesFrom (part_in rect planes xs) (part_in rect planes new) from rect) lent copies))
