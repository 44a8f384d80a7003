-- Linear values of raw ones (DNG 1.6, chapter 5, "Mapping Raw Values to Linear Reference Values": linearization, black
-- subtraction, rescaling, clipping). The rounding, and levels in 256ths, are this project's own.
use Rattle.std.specs.Prelude.{ℕ, ◌-◌, ◌*◌, ◌==◌, min, if◌then◌else◌, ℤ, pos, ◌+ℤ◌, ◌-ℤ◌, ◌*ℤ◌, List, length}
use Rattle.std.specs.Prelude.{slice_index}
use Rattle.std.specs.Int.{int_div_euclid}
use Rattle.plane_view.specs.Samples.{clipped}

-- what a sample becomes by the linearisation table: the last entry where it is past the table; an empty table changes
-- nothing
unfoldable pub by_table : List ℕ → ℕ → ℕ
by_table table v = if length table == 0 then v else slice_index table (min v (length table - 1))

-- a level above black, where white is `span` above the greatest black, both in 256ths, as a part of 65535: rounded to
-- the nearest number, a half up, and held within 0 and 65535
unfoldable pub rescaled : (span above : ℤ) → ℕ
rescaled span above = clipped (int_div_euclid (pos 131070 *ℤ above +ℤ span) (pos 2 *ℤ span))

-- the linear value of a sample after the table; the black level of its place is in 256ths
abbrev pub linear_at : (span black : ℤ) → ℕ → ℕ
linear_at span black v = rescaled span (pos (256 * v) -ℤ black)
