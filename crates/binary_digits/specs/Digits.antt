-- Binary digits of numbers and of bytes, most significant first (TIFF 6.0, section 8, "FillOrder" 1; ITU-T T.81,
-- Annex C.3).
use Rattle.std.specs.Prelude.{ℕ, zero, suc, ◌+◌, ◌/◌, ◌%◌, ◌^◌, ◌==◌, if◌then◌else◌, Bool, List, [], ◌∷◌, length}
use Rattle.std.specs.List.{flat_map}

-- The lowest binary digits of a number, so many as `size`, most significant first.
unfoldable pub bits_of : ℕ → ℕ → List Bool
bits_of zero number = []
bits_of (suc size) number = (number / 2 ^ size % 2 == 1) ∷ bits_of size number

-- The number that binary digits spell, most significant first.
unfoldable pub number_of : List Bool → ℕ
number_of [] = 0
number_of (bit ∷ digits) = (if bit then 2 ^ length digits else 0) + number_of digits

-- The binary digits of bytes, eight of each byte, one byte after the other.
abbrev pub byte_bits : List ℕ → List Bool
byte_bits bytes = flat_map (bits_of 8) bytes
