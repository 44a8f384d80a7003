-- The black levels of an area in two parts, and their limits: this project's own.
use Rattle.std.specs.Prelude.{◌≡◌, ℕ, ◌+◌, ◌*◌, ◌%◌, ◌≤◌, ℤ, pos, ◌+ℤ◌, List, length, slice_index_or}
use Rattle.tag_rules.specs.Quantities.{AreWithin}

-- the black level at row r, column c: that of the column in the pattern's row, and what the row adds
abbrev pub black_by : (cols repeat : ℕ) → (across down : List ℤ) → ℕ → ℕ → ℤ
black_by cols repeat across down r c =
    slice_index_or across (r % repeat * cols + c) (pos 0) +ℤ slice_index_or down r (pos 0)

-- how many rows and columns an area may have
pub record IsAreaSize (rows cols : ℕ) : Type 0 where
  pub some_rows : 1 ≤ rows
  pub most_rows : rows ≤ 8192
  pub some_cols : 1 ≤ cols
  pub most_cols : cols ≤ 8192

-- levels of an area of this many rows and columns, and their limits
pub record AreBlacks (rows cols repeat : ℕ) (across down : List ℤ) : Type 0 where
  pub sides : IsAreaSize rows cols
  pub some_repeat : 1 ≤ repeat
  pub most_repeat : repeat ≤ 8
  pub long_across : length across ≡ repeat * cols
  pub long_down : length down ≡ rows
  pub within_across : AreWithin 33554432 across
  pub within_down : AreWithin 16777216 down
