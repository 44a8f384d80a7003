-- Definitions for the contracts between functions of this crate: the places of pixels, row by row, among rows of 2^32
-- pixels. This is this project's own.
use Rattle.std.specs.Prelude.{◌≡◌, ℕ, ◌+◌, ◌*◌, ◌^◌, ◌<◌, ◌≤◌, ◌==◌, ◌⊎◌, true, List, length, slice_index, Option, Some}
use Rattle.std.specs.Prelude.{None}
use Rattle.std.specs.List.{list_any}

-- the place of the pixel at row r, column c
abbrev pub place_of : ℕ → ℕ → ℕ
place_of r c = r * 2 ^ 32 + c

-- the number is the least of a list that isn't below another
pub record IsLeastFrom (xs : List ℕ) (low next : ℕ) : Type 0 where
  pub not_below : low ≤ next
  pub listed : list_any (λ x. x == next) xs ≡ true
  pub least : (k : ℕ) → k < length xs → (slice_index xs k < low) ⊎ (next ≤ slice_index xs k)

-- the least number of a list that isn't below another, if there is one
abbrev pub IsFirstPlace : List ℕ → ℕ → Option ℕ → Type 0
IsFirstPlace xs low None = (k : ℕ) → k < length xs → slice_index xs k < low
IsFirstPlace xs low (Some next) = IsLeastFrom xs low next
