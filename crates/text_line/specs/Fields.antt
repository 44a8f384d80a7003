-- The fields of a line, each after one space. This is this project's own.
use Rattle.std.specs.Prelude.{ℕ, List, ◌∷◌, decimal}

-- a number in decimal, after a space
abbrev pub field_text : ℕ → List ℕ
field_text number = 32 ∷ decimal number
