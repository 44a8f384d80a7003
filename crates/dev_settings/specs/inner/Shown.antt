-- Definitions for the contracts between functions of this crate: the values of the definitions that the values of the
-- code stand for.
use Rattle.std.specs.Prelude.{ℕ, ℤ, List, ◌∷◌, Option, None}
use Rattle.dev_settings.specs.Values.{point_of}
use Rattle.dev_settings.specs.Values as values
use Rattle.dev_settings.specs.declared.written.Written.{Written}
use Rattle.dev_settings.specs.declared.written.Written.TheVariants as code

-- the value that the code holds
abbrev pub shown : Written → values.Written
shown (code.Name text) = values.name text.now
shown (code.Integer n) = values.integer n
shown (code.List ns) = values.integers ns

-- the point whose coordinates are the first two integers
abbrev pub first_point_of : List ℤ → Option (ℕ × ℕ)
first_point_of (x ∷ y ∷ ns) = point_of x y
first_point_of _ = None
