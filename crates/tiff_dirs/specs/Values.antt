-- The numbers in an entry's value (TIFF 6.0, section 2, "Types").
use Rattle.std.specs.Prelude.{ℕ, ◌+◌, ◌*◌, ◌==◌, if◌then◌else◌, ℤ, pos, List}
use Rattle.tiff_dirs.specs.Kinds.{size_of}
use Rattle.tiff_dirs.specs.Numbers.{long_at, number_at, signed_long_at, signed_short_at}
use Rattle.tiff_dirs.specs.declared.Order.{Order}

-- number i of a value of whole numbers
unfoldable pub number_in : Order → ℕ → List ℕ → ℕ → ℕ
number_in order kind value i = number_at order (size_of kind) value (size_of kind * i)

-- number i of a value as numerator and denominator: a RATIONAL is two LONGs, an SRATIONAL two SLONGs, the
-- numerator first; a whole number is over 1
unfoldable pub rational_in : Order → ℕ → List ℕ → ℕ → ℤ × ℤ
rational_in order kind value i =
    if kind == 5 then (pos (long_at order value (8 * i)), pos (long_at order value (8 * i + 4)))
    else (if kind == 8 then (signed_short_at order value (2 * i), pos 1)
    else (if kind == 9 then (signed_long_at order value (4 * i), pos 1)
    else (if kind == 10 then (signed_long_at order value (8 * i), signed_long_at order value (8 * i + 4))
    else (pos (number_in order kind value i), pos 1))))
