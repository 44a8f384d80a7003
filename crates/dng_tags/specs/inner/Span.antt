-- The search for the greatest black level. This is this project's own.
use Rattle.std.specs.Prelude.{◌≡◌, ℕ, ◌%◌, ◌<◌, ℤ, ◌≤ℤ◌}
use Rattle.dng_tags.specs.Black.{black_at}
use Rattle.dng_tags.specs.declared.record.Levels.{Levels}

-- a value of a function at one of the numbers of which P holds
pub record IsReached (P : ℕ → Type 0) (f : ℕ → ℤ) (value : ℤ) : Type 0 where
  pub at : ℕ
  pub there : P at
  pub same : f at ≡ value

-- the greatest of a function over the numbers of which P holds
pub record IsGreatest (P : ℕ → Type 0) (f : ℕ → ℤ) (most : ℤ) : Type 0 where
  pub bound : (k : ℕ) → P k → f k ≤ℤ most
  pub reached : IsReached P f most

-- the place k is one of count, and falls on place first of a pattern
pub record FallsOn (count step first k : ℕ) : Type 0 where
  pub within : k < count
  pub place : k % step ≡ first

-- the place k is one of count, and falls on a place of a pattern before limit
pub record FallsBefore (count step limit k : ℕ) : Type 0 where
  pub within : k < count
  pub place : k % step < limit

-- a black level of one of the rows of which P holds
pub record IsReachedBlack (P : ℕ → Type 0) (levels : Levels) (cols : ℕ) (value : ℤ) : Type 0 where
  pub row : ℕ
  pub col : ℕ
  pub there : P row
  pub within : col < cols
  pub same : black_at levels row col ≡ value

-- the greatest black level of the rows of which P holds
pub record IsGreatestBlack (P : ℕ → Type 0) (levels : Levels) (cols : ℕ) (most : ℤ) : Type 0 where
  pub bound : (r c : ℕ) → P r → c < cols → black_at levels r c ≤ℤ most
  pub reached : IsReachedBlack P levels cols most
