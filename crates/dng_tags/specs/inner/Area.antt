-- How large the numbers of a crop are. This is this project's own.
use Rattle.std.specs.Prelude.{ℕ, pos, neg_ℤ, ◌≤ℤ◌}
use Rattle.dng_tags.specs.declared.area.Extent.{Extent}

-- a place or a size none of whose numbers is beyond a limit
pub record IsBelow (limit : ℕ) (extent : Extent) : Type 0 where
  pub across_low : neg_ℤ (pos limit) ≤ℤ extent.across
  pub across_high : extent.across ≤ℤ pos limit
  pub down_low : neg_ℤ (pos limit) ≤ℤ extent.down
  pub down_high : extent.down ≤ℤ pos limit
