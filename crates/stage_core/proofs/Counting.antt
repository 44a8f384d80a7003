-- Counts that are held at their last value.
use Rattle.std.proofs.Common.{◌≡◌, ℕ, ◌+◌, ◌-◌, ◌^◌, ◌≤◌, arith}
use Rattle.stage_core.specs.Bases.{raised}

-- raised by one more, and by more
pub raised_more : (a n m : ℕ) → raised (raised a n) m ≡ raised a (n + m)
raised_more a n m = omega arith

pub raised_none : (a : ℕ) → a ≤ 2 ^ 64 - 1 → raised a 0 ≡ a
raised_none a small = omega arith
