-- Definitions for the contracts between functions of this crate: tables and rows that are filled from left to right.
-- This is this project's own.
use Rattle.std.specs.Prelude.{◌≡◌, ℕ, ◌<◌, ◌≤◌, List, [], ◌∷◌, Bool, true, slice_index}
use Rattle.tone_table.specs.Knots.{rise_to}

-- the entries from one up to another are those of a function
abbrev pub HasEntries : (ℕ → ℕ) → List ℕ → (from to : ℕ) → Type 0
HasEntries f table from to = (x : ℕ) → from ≤ x → x < to → slice_index table x ≡ f x

-- the entries below one stay
abbrev pub SameBelow : (old new : List ℕ) → ℕ → Type 0
SameBelow old new x = (i : ℕ) → i < x → slice_index new i ≡ slice_index old i

-- there is a first point, and from it on the points rise to 65535
abbrev pub rise_from_first : List (ℕ × ℕ) → Bool
rise_from_first [] = true
rise_from_first (first ∷ rest) = rise_to 65535 first.0 rest

-- where the first point is
abbrev pub first_of : List (ℕ × ℕ) → ℕ
first_of [] = 65536
first_of (first ∷ rest) = first.0

-- each of the first n samples of a row is looked up
abbrev pub HasLookups : (table from out : List ℕ) → ℕ → Type 0
HasLookups table from out n = (i : ℕ) → i < n → slice_index out i ≡ slice_index table (slice_index from i)
