-- Definitions for the contracts between functions of this crate: parts of rows that are written into lent parts of
-- planes. This is this project's own.
use Rattle.std.specs.Prelude.{◌≡◌, ℕ, ◌+◌, ◌-◌, ◌*◌, ◌<◌, ◌≤◌, List, slice_index}
use Rattle.plane_view.specs.Rectangles.{HasPixel}
use Rattle.plane_view.specs.Lent.{Lent, sample_at}

-- the pixels of row r from column left up to column right have these samples, and the others stay
pub record PutsRowPart (old new : Lent) (r left right : ℕ) (samples : List ℕ) : Type 0 where
  pub written : (c p : ℕ) → left ≤ c → c < right → p < old.planes
      → sample_at new r c p ≡ slice_index samples ((c - left) * old.planes + p)
  pub others : (r' c p : ℕ) → HasPixel old.rect r' c → p < old.planes → (r' ≡ r → left ≤ c → c < right → ⊥)
      → sample_at new r' c p ≡ sample_at old r' c p
