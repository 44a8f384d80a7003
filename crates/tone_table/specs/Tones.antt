-- Tone curves and their tables: this project's own.
use Rattle.std.specs.Prelude.{ℕ, zero, suc, ◌*◌, Bool, nat_le, nat_lt, if◌then◌else◌, ℤ, pos, negsuc, ◌+ℤ◌, ◌-ℤ◌}
use Rattle.std.specs.Prelude.{◌*ℤ◌, List, [], ◌∷◌, map, slice_index}
use Rattle.std.specs.Int.{int_div_euclid}
use Rattle.std.specs.List.{range_with_len}
use Rattle.plane_view.specs.Plane.{Plane, sample, plane_of}
use Rattle.tone_table.specs.declared.Curve.{Curve}
use Rattle.tone_table.specs.declared.Curve.TheVariants.{Linear, Root, Knots}

-- the greatest number up to n that passes a test, or 0
unfoldable pub greatest : ℕ → (ℕ → Bool) → ℕ
greatest zero passes = 0
greatest (suc n) passes = if passes (suc n) then suc n else greatest n passes

-- the greatest y with y * y at most n
unfoldable pub root_of : ℕ → ℕ
root_of n = greatest n (λ y. nat_le (y * y) n)

-- a whole number, or 0 where it is negative
abbrev pub natural : ℤ → ℕ
natural (pos n) = n
natural (negsuc n) = 0

-- the height at x of the line from one point to another that is to its right, rounded down
abbrev pub line_at : ℕ × ℕ → ℕ × ℕ → ℕ → ℕ
line_at one other x =
    natural (pos one.1 +ℤ int_div_euclid ((pos x -ℤ pos one.0) *ℤ (pos other.1 -ℤ pos one.1))
    (pos other.0 -ℤ pos one.0))

-- the height at x of the lines between points that follow each other; from the last one on, its own
abbrev pub knots_at : List (ℕ × ℕ) → ℕ → ℕ
knots_at [] x = 0
knots_at (last ∷ []) x = last.1
knots_at (one ∷ (other ∷ rest)) x = if nat_lt x other.0 then line_at one other x else knots_at (other ∷ rest) x

-- what a curve makes of a sample from 0 to 65535
abbrev pub toned_at : Curve → ℕ → ℕ
toned_at Linear x = x
toned_at Root x = root_of (x * 65535)
toned_at (Knots points) x = knots_at points x

-- the table of a curve: what it makes of each sample
unfoldable pub curve_table : Curve → List ℕ
curve_table curve = map (toned_at curve) (range_with_len 0 65536)

-- the entry of a table for the sample at row r, column c of plane p, from the samples by place
abbrev pub entry_at : List ℕ → (ℕ → ℕ → ℕ → ℕ) → ℕ → ℕ → ℕ → ℕ
entry_at table at r c p = slice_index table (at r c p)

-- the plane of the entries of a table for each sample
abbrev pub toned : List ℕ → Plane → Plane
toned table P = plane_of P.rows P.cols P.planes (entry_at table (sample P))
