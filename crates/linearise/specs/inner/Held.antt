-- The black levels that a stage holds: this project's own.
use Rattle.std.specs.Prelude.{◌≡◌, ℕ, ◌<◌, ℤ, List}
use Rattle.dng_tags.specs.Black.{row_by_row}
use Rattle.linearise.specs.inner.Blacks.{black_by}
use Rattle.linearise.specs.declared.blacks.Blacks.{Blacks}

-- the black level at row r, column c
abbrev pub black_in : Blacks → ℕ → ℕ → ℤ
black_in b r c = black_by b.cols b.repeat b.across b.down r c

-- the black levels of the area, row by row
abbrev pub blacks_in : Blacks → List ℤ
blacks_in b = row_by_row b.rows b.cols (black_in b)

-- two areas have the same levels in row r
abbrev pub SameRow : Blacks → Blacks → ℕ → Type 0
SameRow a b r = (c : ℕ) → c < a.cols → black_in a r c ≡ black_in b r c
