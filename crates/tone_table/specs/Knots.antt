-- The points of a tone curve: this project's own.
use Rattle.std.specs.Prelude.{ℕ, ◌-◌, ◌++◌, ◌==◌, ◌&&◌, Bool, false, if◌then◌else◌, List, [], ◌∷◌, Option, Some, None}
use Rattle.std.specs.Prelude.{length, replicate, nat_lt, nat_le}

-- the first coordinates rise strictly, from above x on, and the last of them, or x where there is none, is `end`
abbrev pub rise_to : ℕ → ℕ → List (ℕ × ℕ) → Bool
rise_to end x [] = x == end
rise_to end x (point ∷ points) = nat_lt x point.0 && rise_to end point.0 points

-- knots are 2 to 16 points; the first coordinates begin at 0, rise strictly and end at 65535; the second are free
abbrev pub are_knots : List (ℕ × ℕ) → Bool
are_knots [] = false
are_knots (first ∷ rest) = nat_le 1 (length rest) && nat_le (length rest) 15 && first.0 == 0 && rise_to 65535 0 rest

-- the points, where they are knots
abbrev pub knots_of : List (ℕ × ℕ) → Option (List (ℕ × ℕ))
knots_of points = if are_knots points then Some points else None

-- points in an array of 16
abbrev pub padded : List (ℕ × ℕ) → List (ℕ × ℕ)
padded points = points ++ replicate (16 - length points) (0, 0)
