-- Samples, which are numbers of 16 bits. This is this project's own.
use Rattle.std.specs.Prelude.{ℕ, min, ℤ, pos, negsuc}

-- a whole number held within 0 and a greatest one
abbrev pub held_within : (most : ℕ) → ℤ → ℕ
held_within most (pos n) = min n most
held_within most (negsuc n) = 0

-- a whole number held within 0 and 65535
abbrev pub clipped : ℤ → ℕ
clipped = held_within 65535
