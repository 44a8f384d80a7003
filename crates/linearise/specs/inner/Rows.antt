-- Rows of linear values: this project's own.
use Rattle.std.specs.Prelude.{◌≡◌, ℕ, ◌+◌, ◌<◌, ℤ, pos, ◌+ℤ◌, List, length, slice_index, slice_index_or}
use Rattle.linearise.specs.Linear.{by_table, linear_at}

-- each sample after the table
pub record IsTabled (table samples xs : List ℕ) : Type 0 where
  pub long : length xs ≡ length samples
  pub values : (k : ℕ) → k < length samples → slice_index xs k ≡ by_table table (slice_index samples k)

-- the samples before a limit have become linear values, over the levels of their columns and what the row adds, and the
-- others stay
pub record IsLinearTo (span : ℕ) (across : List ℤ) (down : ℤ) (old new : List ℕ) (limit : ℕ) : Type 0 where
  pub done : (k : ℕ) → k < limit → slice_index new k ≡ linear_at (pos span) (slice_index_or across k (pos 0) +ℤ down)
      (slice_index old k)
  pub left : (k : ℕ) → limit < k + 1 → slice_index new k ≡ slice_index old k
