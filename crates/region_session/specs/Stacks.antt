-- The shapes of the planes of stages, one above the other over a base's plane. This is this project's own.
use Rattle.std.specs.Prelude.{◌≡◌, ℕ, ◌-◌, ◌≤◌, List, [], ◌∷◌, length, slice_get, take, Option, None, Some}
use Rattle.plane_view.specs.declared.Shape.{Shape}
use Rattle.stage_chain.specs.Chains.{TakeInTurn}

-- the shape of the last plane
abbrev pub last_shape : {S : Type 0} → (S → Shape → Shape) → Shape → List S → Shape
last_shape shaped input [] = input
last_shape shaped input (stage ∷ stages) = last_shape shaped (shaped stage input) stages

-- the shape of plane k; plane 0 has the shape input
abbrev pub plane_shape : {S : Type 0} → (S → Shape → Shape) → Shape → List S → ℕ → Shape
plane_shape shaped input stages k = last_shape shaped input (take k stages)

-- stage k, counted from 1, is the first that refuses the shape of the plane below it
pub record IsFirstRefusal {S : Type 0} (takes : S → Shape → Type 0) (shaped : S → Shape → Shape) (stages : List S)
    (input : Shape) (k : ℕ) : Type 0 where
  pub least : 1 ≤ k
  pub most : k ≤ length stages
  pub before : TakeInTurn takes shaped (take (k - 1) stages) input
  pub refuses : (stage : S) → slice_get stages (k - 1) ≡ Some stage
      → takes stage (plane_shape shaped input stages (k - 1)) → ⊥

-- the shape of what a stage makes of planes of a shape, if it takes them
pub record IsShapeOver {S : Type 0} (takes : S → Shape → Type 0) (shaped : S → Shape → Shape) (stage : S)
    (input : Shape) (got : Option Shape) : Type 0 where
  pub none : got ≡ None → takes stage input → ⊥
  pub some : (made : Shape) → got ≡ Some made → takes stage input × (made ≡ shaped stage input)
