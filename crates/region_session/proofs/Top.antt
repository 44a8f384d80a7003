-- Stages with one more on top.
use Rattle.std.proofs.Common.{◌≡◌, List, [], ◌∷◌, ◌++◌, length, refl, ◌∙◌, ap, subst, arith}
use Rattle.plane_view.specs.declared.Shape.{Shape}
use Rattle.plane_view.specs.Plane.{Plane}
use Rattle.stage_chain.specs.Chains.{whole_of}
use Rattle.region_session.specs.declared.layers.Layer.{Layer}
use Rattle.region_session.specs.inner.Layers.{AreLayers, IsLayer}
use Rattle.region_session.specs.Stacks.{last_shape}

whole_last : {S : Type 0} (apply : S → Plane → Plane) (stages : List S) (stage : S) (P : Plane)
    → whole_of apply (stages ++ stage ∷ []) P ≡ apply stage (whole_of apply stages P)
whole_last apply [] stage P = refl
whole_last apply (first ∷ stages) stage P = whole_last apply stages stage (apply first P)

pub shape_last : {S : Type 0} (shaped : S → Shape → Shape) (input : Shape) (stages : List S) (stage : S)
    → last_shape shaped input (stages ++ stage ∷ []) ≡ shaped stage (last_shape shaped input stages)
shape_last shaped input [] stage = refl
shape_last shaped input (first ∷ stages) stage = shape_last shaped (shaped first input) stages stage

-- what is known of the stage on top and its layer
pub record IsTop {S : Type 0} (takes : S → Shape → Type 0) (shaped : S → Shape → Shape) (input : Shape)
    (stages : List S) (stage : S) (layers : List Layer) (layer : Layer) : Type 0 where
  pub below : AreLayers takes shaped input stages layers
  pub stands : layer.input ≡ last_shape shaped input stages
  pub is : IsLayer takes shaped stage layer

layers_last : {S : Type 0} (takes : S → Shape → Type 0) (shaped : S → Shape → Shape) (input : Shape) (stages : List S)
    (stage : S) (layers : List Layer) (layer : Layer)
    → AreLayers takes shaped input (stages ++ stage ∷ []) (layers ++ layer ∷ [])
    → IsTop takes shaped input stages stage layers layer
layers_last takes shaped input [] stage [] layer are = record { below = tt; stands = are.0; is = are.1 }
layers_last takes shaped input [] stage (first ∷ []) layer are = absurd are.2
layers_last takes shaped input [] stage (first ∷ (second ∷ layers)) layer are = absurd are.2
layers_last takes shaped input (first ∷ []) stage [] layer are = absurd are.2
layers_last takes shaped input (first ∷ (second ∷ stages)) stage [] layer are = absurd are.2
layers_last takes shaped input (first ∷ stages) stage (lowest ∷ layers) layer are =
    let top = layers_last takes shaped (shaped first input) stages stage layers layer are.2 in
    record { below = (are.0, are.1, top.below); stands = top.stands; is = top.is }

-- there are as many layers as stages
pub as_many : {S : Type 0} (takes : S → Shape → Type 0) (shaped : S → Shape → Shape) (input : Shape) (stages : List S)
    (layers : List Layer) → AreLayers takes shaped input stages layers → length layers ≡ length stages
as_many takes shaped input [] [] are = refl
as_many takes shaped input [] (layer ∷ layers) are = absurd are
as_many takes shaped input (stage ∷ stages) [] are = absurd are
as_many takes shaped input (stage ∷ stages) (layer ∷ layers) are =
    let rest = as_many takes shaped (shaped stage input) stages layers are.2 in
    omega (arith, rest)

-- the same of lists that are split
pub top_of : {S : Type 0} (takes : S → Shape → Type 0) (shaped : S → Shape → Shape) (input : Shape)
    (all stages : List S) (stage : S) (all_layers layers : List Layer) (layer : Layer)
    → all ≡ stages ++ stage ∷ [] → all_layers ≡ layers ++ layer ∷ [] → AreLayers takes shaped input all all_layers
    → IsTop takes shaped input stages stage layers layer
top_of takes shaped input all stages stage all_layers layers layer split split_layers are =
    layers_last takes shaped input stages stage layers layer
    (subst (λ (xs : List Layer). AreLayers takes shaped input (stages ++ stage ∷ []) xs) split_layers
    (subst (λ (xs : List _). AreLayers takes shaped input xs all_layers) split are))

pub shape_top : {S : Type 0} (shaped : S → Shape → Shape) (input : Shape) (all stages : List S) (stage : S)
    → all ≡ stages ++ stage ∷ [] → last_shape shaped input all ≡ shaped stage (last_shape shaped input stages)
shape_top shaped input all stages stage split = ap (last_shape shaped input) split
    ∙ shape_last shaped input stages stage

pub whole_top : {S : Type 0} (apply : S → Plane → Plane) (all stages : List S) (stage : S) (P : Plane) → all ≡ stages
    ++ stage ∷ [] → whole_of apply all P ≡ apply stage (whole_of apply stages P)
whole_top apply all stages stage P split = ap (λ (xs : List _). whole_of apply xs P) split
    ∙ whole_last apply stages stage P
