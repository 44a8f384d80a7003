-- Tiles that are written row by row. This is this project's own.
use Rattle.std.specs.Prelude.{◌≡◌, ℕ, ◌+◌, ◌-◌, ◌*◌, ◌<◌, List, length, slice_index}
use Rattle.std.specs.Borrow.{MutBor}
use Rattle.plane_view.specs.declared.Rect.{Rect}
use Rattle.plane_view.specs.Rectangles.{HasPixel, width}
use Rattle.plane_view.specs.Lent.{Lent, HasRow, sample_at}

-- a list has the samples f r c p of row r of a rectangle, the planes of a pixel side by side
pub record IsRowOf (f : ℕ → ℕ → ℕ → ℕ) (rect : Rect) (planes r : ℕ) (xs : List ℕ) : Type 0 where
  pub samples : (c p : ℕ) → HasPixel rect r c → p < planes → slice_index xs ((c - rect.left) * planes + p) ≡ f r c p

-- the part has the samples f r c p at the pixels of a rectangle
pub record HasSamples (f : ℕ → ℕ → ℕ → ℕ) (L : Lent) (rect : Rect) : Type 0 where
  pub samples : (r c p : ℕ) → HasPixel rect r c → p < L.planes → sample_at L r c p ≡ f r c p

-- a list is as long as a row of a rectangle
abbrev pub IsAsLong : Rect → ℕ → List ℕ → Type 0
IsAsLong rect planes xs = length xs ≡ width rect * planes

-- each call that is given row r of a rectangle leaves the samples f r c p there
abbrev pub WritesRows : (ℕ → MutBor (List ℕ) → MutBor (List ℕ) → Type 0) → Rect → ℕ → (ℕ → ℕ → ℕ → ℕ) → Type 0
WritesRows calls rect planes f =
    (r : ℕ) (old new : MutBor (List ℕ)) → HasRow rect r → IsAsLong rect planes old.now → IsAsLong rect planes new.now
    → calls r old new → IsRowOf f rect planes r new.now
