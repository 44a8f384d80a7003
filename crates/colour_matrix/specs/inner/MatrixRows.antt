-- Definitions for the contracts between functions of this crate: rows of pixels that a matrix maps, the three planes of
-- a pixel side by side. This is this project's own.
use Rattle.std.specs.Prelude.{◌≡◌, ℕ, zero, suc, ◌+◌, ◌*◌, ◌<◌, ◌≤◌, ℤ, pos, ◌+ℤ◌, ◌-ℤ◌, ◌*ℤ◌, List, slice_index}
use Rattle.std.specs.Prelude.{slice_index_or, slice_set}
use Rattle.colour_matrix.specs.declared.matrix_rows.Raised.{Raised}
use Rattle.colour_matrix.specs.declared.matrix_rows.Row.{Row}
use Rattle.colour_matrix.specs.declared.matrix_rows.Rows.{Rows}
use Rattle.colour_matrix.specs.Matrices.{entry_at, matrixed_value}
use Rattle.plane_view.specs.Samples.{clipped}
use Rattle.std.specs.Int.{int_div_euclid}

-- an entry that was raised by 2^24, in digits
pub record IsRaised (entry : ℤ) (raised : Raised) : Type 0 where
  pub is : entry ≡ pos (raised.high * 16384 + raised.low) -ℤ pos 16777216
  pub high : raised.high ≤ 2048
  pub low : raised.low < 16384

-- the products of a sample and these digits have 32 bits
pub record AreDigits (row : Row) : Type 0 where
  pub red_high : row.red.high ≤ 2048
  pub red_low : row.red.low < 16384
  pub green_high : row.green.high ≤ 2048
  pub green_low : row.green.low < 16384
  pub blue_high : row.blue.high ≤ 2048
  pub blue_low : row.blue.low < 16384

-- a row of a matrix with these entries
pub record IsRow (a b c : ℤ) (row : Row) : Type 0 where
  pub red : IsRaised a row.red
  pub green : IsRaised b row.green
  pub blue : IsRaised c row.blue

-- three entries times a pixel, rounded to the nearest number, a half up, and held within 0 and 65535
abbrev pub product_of : (a b c : ℤ) → (red green blue : ℕ) → ℕ
product_of a b c red green blue =
    clipped (int_div_euclid (a *ℤ pos red +ℤ b *ℤ pos green +ℤ c *ℤ pos blue +ℤ pos 32768) (pos 65536))

-- row i of three
abbrev pub row_at : Rows → ℕ → Row
row_at rows zero = rows.red
row_at rows (suc zero) = rows.green
row_at rows (suc (suc i)) = rows.blue

-- the three rows of a matrix
abbrev pub AreRows : List ℤ → Rows → Type 0
AreRows c rows = (i : ℕ) → i < 3 → IsRow (entry_at c i 0) (entry_at c i 1) (entry_at c i 2) (row_at rows i)

-- the products of a sample and the digits of each row have 32 bits
abbrev pub HaveDigits : Rows → Type 0
HaveDigits rows = (i : ℕ) → i < 3 → AreDigits (row_at rows i)

-- the first n pixels of a row are those of a matrix times a row
abbrev pub HasMatrixed : List ℤ → (from out : List ℕ) → ℕ → Type 0
HasMatrixed c from out n =
    (k p : ℕ) → k < n → p < 3
    → slice_index out (k * 3 + p)
    ≡ matrixed_value c p (slice_index from (k * 3)) (slice_index from (k * 3 + 1)) (slice_index from (k * 3 + 2))

-- a row whose pixel k is written
abbrev pub with_pixel : List ℕ → ℕ → (red green blue : ℕ) → List ℕ
with_pixel xs k red green blue = slice_set (slice_set (slice_set xs (k * 3) red) (k * 3 + 1) green) (k * 3 + 2) blue

-- a row in 10000ths times column j of a forward matrix, rounded to the nearest number, a half up
abbrev pub product_with : (row f : List ℤ) → ℕ → ℤ
product_with row f j =
    int_div_euclid (slice_index_or row 0 (pos 0) *ℤ entry_at f 0 j +ℤ slice_index_or row 1 (pos 0) *ℤ entry_at f 1 j
    +ℤ slice_index_or row 2 (pos 0) *ℤ entry_at f 2 j +ℤ pos 5000) (pos 10000)
