-- Definitions for the contracts between functions of this crate: the shapes of the planes of stages, as a session keeps
-- them. This is this project's own.
use Rattle.std.specs.Prelude.{◌≡◌, ⊤, List, [], ◌∷◌}
use Rattle.plane_view.specs.declared.Shape.{Shape}
use Rattle.plane_view.specs.Shapes.{IsShape}
use Rattle.region_session.specs.declared.layers.Layer.{Layer}

-- the shapes below and above a stage that takes the one below
pub record IsLayer {S : Type 0} (takes : S → Shape → Type 0) (shaped : S → Shape → Shape) (stage : S)
    (layer : Layer) : Type 0 where
  pub input : IsShape layer.input
  pub taken : takes stage layer.input
  pub shape : layer.shape ≡ shaped stage layer.input

-- the same of each stage over the one before, the first over this shape
abbrev pub AreLayers : {S : Type 0} → (S → Shape → Type 0) → (S → Shape → Shape) → Shape → List S → List Layer → Type 0
AreLayers takes shaped input [] [] = ⊤
AreLayers takes shaped input [] (layer ∷ layers) = ⊥
AreLayers takes shaped input (stage ∷ stages) [] = ⊥
AreLayers takes shaped input (stage ∷ stages) (layer ∷ layers) =
    (layer.input ≡ input) × IsLayer takes shaped stage layer × AreLayers takes shaped (shaped stage input) stages layers
