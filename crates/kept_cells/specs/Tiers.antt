-- The planes of stages, one above the other. This is this project's own.
use Rattle.std.specs.Prelude.{ℕ, List, [], ◌∷◌}
use Rattle.plane_view.specs.declared.Rect.{Rect}
use Rattle.plane_view.specs.declared.Shape.{Shape}
use Rattle.stage_deps.specs.Grids.{grid_cells}

-- a stage, the shape of the plane below it, and the shape and the cells of its own plane
pub record Tier (S : Type 0) : Type 0 where
  pub stage : S
  pub input : Shape
  pub shape : Shape
  pub cells : List Rect

-- a stage over a plane of a shape, with cells of a side
abbrev pub tier_of : {S : Type 0} → (S → Shape → Shape) → (side : ℕ) → Shape → S → Tier S
tier_of shaped side input stage = record {
  stage = stage;
  input = input;
  shape = shaped stage input;
  cells = grid_cells (shaped stage input) side;
}

-- the same of each stage over the one before, the first over a plane of this shape
abbrev pub tiers_of : {S : Type 0} → (S → Shape → Shape) → (side : ℕ) → Shape → List S → List (Tier S)
tiers_of shaped side input [] = []
tiers_of shaped side input (stage ∷ stages) =
    tier_of shaped side input stage ∷ tiers_of shaped side (shaped stage input) stages
