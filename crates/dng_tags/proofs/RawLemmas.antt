-- Raw samples, and segments that can be decoded.
use Rattle.std.proofs.Common.{◌≡◌, ℕ, zero, suc, ◌+◌, Bool, true, List, [], ◌∷◌, None, Some, inl, inr, slice_get}
use Rattle.std.proofs.Common.{slice_index, refl, arith}
use Rattle.std.specs.List.{find}
use Rattle.std.proofs.lemmas.Bool.{cases_Bool}
use Rattle.plane_view.specs.Rectangles.{HasPixel, has_pixel}
use Rattle.plane_view.proofs.Pixels.{has_pixel-true, pixel_of_test}
use Rattle.dng_tags.specs.declared.record.Coding.{Coding}
use Rattle.dng_tags.specs.declared.record.Segment.{Segment}
use Rattle.dng_tags.specs.Raw.{coded_place, coded_samples, fault_from, raw_sample, refused_or, segment_fault}

-- the only element that passes a test is the one that is found
find_only : {A : Type 0} (p : A → Bool) (xs : List A) (k : ℕ) (x : A) → slice_get xs k ≡ Some x → p x ≡ true
    → ((i : ℕ) (y : A) → slice_get xs i ≡ Some y → p y ≡ true → i ≡ k) → find p xs ≡ Some x
find_only p [] k x at pass only = cc
find_only p (y ∷ ys) zero x at pass only = let same : y ≡ x = cc in rw same (rw pass refl)
find_only p (y ∷ ys) (suc k) x at pass only =
    elim (cases_Bool (p y)) [
      | inl t ↦ let first : 0 ≡ suc k = only 0 y refl t in absurd (omega arith)
      | inr f ↦ rw f (find_only p ys k x at pass (λ i z zat zpass. let next : suc i ≡ suc k = only (suc i) z zat zpass
          in omega arith))
    ]

-- the raw sample at a pixel of segment k, where no two segments have a pixel in common
pub raw_sample-at : (bytes : List ℕ) (coding : Coding) (segments : List Segment) (k : ℕ) (segment : Segment) (r c : ℕ)
    → ((i j : ℕ) (one other : Segment) → slice_get segments i ≡ Some one → slice_get segments j ≡ Some other
    → HasPixel one.rect r c → HasPixel other.rect r c → i ≡ j) → slice_get segments k ≡ Some segment
    → HasPixel segment.rect r c
    → raw_sample bytes coding segments r c ≡ slice_index (coded_samples bytes coding segment) (coded_place segment r c)
unfolding raw_sample
raw_sample-at bytes coding segments k segment r c apart at pixel =
    let p : Segment → Bool = λ s. has_pixel r c s.rect in
    let found : find p segments ≡ Some segment =
    find_only p segments k segment at (has_pixel-true r c segment.rect pixel)
    (λ i other oat opass. apart i k other segment oat at (pixel_of_test r c other.rect opass) pixel) in
    rw found refl

-- one segment more
pub fault_from-cons : (bytes : List ℕ) (coding : Coding) (k : ℕ) (segment : Segment) (segments : List Segment)
    → fault_from bytes coding k (segment ∷ segments)
    ≡ refused_or k (segment_fault bytes coding segment) (fault_from bytes coding (k + 1) segments)
unfolding fault_from
fault_from-cons bytes coding k segment segments = refl

pub fault_from-nil : (bytes : List ℕ) (coding : Coding) (k : ℕ) → fault_from bytes coding k [] ≡ None
unfolding fault_from
fault_from-nil bytes coding k = refl
