-- Definitions for the contracts between functions of this crate: a row of samples that is mended. This is this
-- project's own.
use Rattle.std.specs.Prelude.{◌≡◌, ℕ, ◌+◌, ◌-◌, ◌<◌, ◌≤◌, Bool, true, false, min, List, slice_index}
use Rattle.plane_view.specs.declared.Rect.{Rect}
use Rattle.plane_view.specs.declared.Shape.{Shape}
use Rattle.opcode_stages.specs.declared.steps.Step.{Step}

-- a step goes at most two rows and two columns
pub record IsShort (step : Step) : Type 0 where
  pub up : step.up ≤ 2
  pub down : step.down ≤ 2
  pub left : step.left ≤ 2
  pub right : step.right ≤ 2

-- a rectangle has what lies at most two rows and two columns from row r, column c of a plane
pub record HasNear (rect : Rect) (whole : Shape) (r c : ℕ) : Type 0 where
  pub row : r < whole.rows
  pub column : c < whole.cols
  pub top : rect.top ≤ r - 2
  pub bottom : min (r + 3) whole.rows ≤ rect.bottom
  pub left : rect.left ≤ c - 2
  pub right : min (c + 3) whole.cols ≤ rect.right

-- the first column from one on that is bad, or the end where there is none before it
pub record IsNextBad (bad : ℕ → Bool) (from to next : ℕ) : Type 0 where
  pub not_before : from ≤ next
  pub not_past : next ≤ to
  pub good : (c : ℕ) → from ≤ c → c < next → bad c ≡ false
  pub found : next < to → bad next ≡ true

-- the columns before one are mended, and the others are as they were
pub record IsMendedTo (mended was : ℕ → ℕ) (left right upto : ℕ) (row : List ℕ) : Type 0 where
  pub done : (k : ℕ) → left ≤ k → k < upto → slice_index row (k - left) ≡ mended k
  pub rest : (k : ℕ) → left ≤ k → upto ≤ k → k < right → slice_index row (k - left) ≡ was k
