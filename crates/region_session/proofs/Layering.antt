-- Layers of stages, by their numbers.
use Rattle.std.proofs.Common.{◌≡◌, ℕ, zero, suc, ◌+◌, ◌-◌, ◌<◌, ◌≤◌, List, [], ◌∷◌, ◌++◌, length, take, slice_get}
use Rattle.std.proofs.Common.{slice_set, Option, None, Some, IsNone, IfSome, refl, sym, ◌∙◌, ap, subst, arith}
use Rattle.std.proofs.lemmas.List.{take_more}
use Rattle.std.proofs.lemmas.Option.{get_or_from_slice_get, none-some, same_Some, slice_get_within}
use Rattle.plane_view.specs.declared.Shape.{Shape}
use Rattle.stage_chain.specs.Chains.{TakeInTurn}
use Rattle.region_session.specs.declared.layers.Layer.{Layer}
use Rattle.region_session.specs.inner.Layers.{AreLayers, IsLayer}
use Rattle.region_session.specs.Stacks.{IsShapeOver, last_shape, plane_shape}

-- one more layer
pub layers_push : {S : Type 0} (takes : S → Shape → Type 0) (shaped : S → Shape → Shape) (input : Shape)
    (stages : List S) (stage : S) (layers : List Layer) (layer : Layer)
    → AreLayers takes shaped input stages layers → layer.input ≡ last_shape shaped input stages
    → IsLayer takes shaped stage layer → AreLayers takes shaped input (stages ++ stage ∷ []) (layers ++ layer ∷ [])
layers_push takes shaped input [] stage [] layer are stands is = (stands, is, tt)
layers_push takes shaped input [] stage (lowest ∷ layers) layer are stands is = absurd are
layers_push takes shaped input (first ∷ stages) stage [] layer are stands is = absurd are
layers_push takes shaped input (first ∷ stages) stage (lowest ∷ layers) layer are stands is =
    (are.0, are.1, layers_push takes shaped (shaped first input) stages stage layers layer are.2 stands is)

-- stages with layers take the shapes in turn
pub in_turn : {S : Type 0} (takes : S → Shape → Type 0) (shaped : S → Shape → Shape) (input : Shape) (stages : List S)
    (layers : List Layer) → AreLayers takes shaped input stages layers → TakeInTurn takes shaped stages input
in_turn takes shaped input [] layers are = tt
in_turn takes shaped input (stage ∷ stages) [] are = absurd are
in_turn takes shaped input (stage ∷ stages) (layer ∷ layers) are = (
  subst (λ (t : Shape). takes stage t) are.0 are.1.taken,
  in_turn takes shaped (shaped stage input) stages layers
      are.2,
)

-- what is known of a layer by its number
pub record IsLayerAt {S : Type 0} (takes : S → Shape → Type 0) (shaped : S → Shape → Shape) (input : Shape)
    (stages : List S) (k : ℕ) (stage : S) (layer : Layer) : Type 0 where
  pub stands : layer.input ≡ last_shape shaped input (take k stages)
  pub makes : layer.shape ≡ last_shape shaped input (take (suc k) stages)
  pub is : IsLayer takes shaped stage layer

pub layer_at : {S : Type 0} (takes : S → Shape → Type 0) (shaped : S → Shape → Shape) (input : Shape) (stages : List S)
    (layers : List Layer) (k : ℕ) (stage : S) (layer : Layer)
    → AreLayers takes shaped input stages layers → slice_get stages k ≡ Some stage → slice_get layers k ≡ Some layer
    → IsLayerAt takes shaped input stages k stage layer
layer_at takes shaped input [] layers k stage layer are at at_layer = absurd (none-some stage at)
layer_at takes shaped input (first ∷ stages) [] k stage layer are at at_layer = absurd are
layer_at takes shaped input (first ∷ stages) (lowest ∷ layers) zero stage layer are at at_layer =
    let same : first ≡ stage = same_Some first stage at in
    let same_layer : lowest ≡ layer = same_Some lowest layer at_layer in
    record {
      stands = ap (λ (x : Layer). x.input) (sym same_layer) ∙ are.0;
      makes = ap (λ (x : Layer). x.shape) (sym same_layer) ∙ are.1.shape ∙ ap (shaped first) are.0;
      is = subst (λ (x : Layer). IsLayer takes shaped stage x) same_layer
          (subst (λ (s : _). IsLayer takes shaped s lowest) same are.1);
    }
layer_at takes shaped input (first ∷ stages) (lowest ∷ layers) (suc k) stage layer are at at_layer =
    let rest = layer_at takes shaped (shaped first input) stages layers k stage layer are.2 at at_layer in
    record { stands = rest.stands; makes = rest.makes; is = rest.is }

-- a stage of the same shapes in the place of another
pub layers_set : {S : Type 0} (takes : S → Shape → Type 0) (shaped : S → Shape → Shape) (input : Shape)
    (stages : List S) (layers : List Layer) (k : ℕ) (stage : S) (layer : Layer)
    → AreLayers takes shaped input stages layers → slice_get layers k ≡ Some layer → takes stage layer.input
    → layer.shape ≡ shaped stage layer.input → AreLayers takes shaped input (slice_set stages k stage) layers
layers_set takes shaped input [] [] k stage layer are at taken makes = absurd (none-some layer at)
layers_set takes shaped input [] (lowest ∷ layers) k stage layer are at taken makes = absurd are
layers_set takes shaped input (first ∷ stages) [] k stage layer are at taken makes = absurd are
layers_set takes shaped input (first ∷ stages) (lowest ∷ layers) zero stage layer are at taken makes =
    let same_layer : layer ≡ lowest = sym (same_Some lowest layer at) in
    let taken_here : takes stage lowest.input = subst (λ (x : Layer). takes stage x.input) same_layer taken in
    let makes_here : lowest.shape ≡ shaped stage lowest.input = subst (λ (x : Layer). x.shape ≡ shaped stage x.input)
    same_layer makes in
    let shapes : shaped first input ≡ shaped stage input = ap (shaped first) (sym are.0) ∙ sym are.1.shape ∙ makes_here
    ∙ ap (shaped stage) are.0 in (
      are.0,
      record { input = are.1.input; taken = taken_here; shape = makes_here },
      subst (λ (t : Shape). AreLayers takes shaped t stages layers) shapes are.2,
    )
layers_set takes shaped input (first ∷ stages) (lowest ∷ layers) (suc k) stage layer are at taken makes =
    (are.0, are.1, layers_set takes shaped (shaped first input) stages layers k stage layer are.2 at taken makes)

-- an element by its number
pub some_at : {X : Type 0} (xs : List X) (k : ℕ) → k < length xs → (x : X) × (slice_get xs k ≡ Some x)
some_at [] k below = absurd (omega arith)
some_at (x ∷ xs) zero below = (x, refl)
some_at (x ∷ xs) (suc k) below = some_at xs k (omega arith)

-- one element more of the first ones
pub take_next : {X : Type 0} (xs : List X) (i : ℕ) (x : X) → slice_get xs i ≡ Some x → take (i + 1) xs ≡ take i xs
    ++ x ∷ []
take_next xs i x at =
    take_more xs i x (slice_get_within xs i x at)
    ∙ ap (λ y. take i xs ++ y ∷ []) (get_or_from_slice_get xs i x x at)

-- what is known of layer k, counted from 1
pub record IsLayerOf {S : Type 0} (takes : S → Shape → Type 0) (shaped : S → Shape → Shape) (input : Shape)
    (stages : List S) (k : ℕ) (layer : Layer) : Type 0 where
  pub stage : S
  pub at : slice_get stages (k - 1) ≡ Some stage
  pub stands : layer.input ≡ plane_shape shaped input stages (k - 1)
  pub makes : layer.shape ≡ plane_shape shaped input stages k
  pub is : IsLayer takes shaped stage layer

pub layer_of : {S : Type 0} (takes : S → Shape → Type 0) (shaped : S → Shape → Shape) (input : Shape) (stages : List S)
    (layers : List Layer) (k : ℕ) (layer : Layer)
    → AreLayers takes shaped input stages layers → 1 ≤ k → k ≤ length stages → slice_get layers (k - 1) ≡ Some layer
    → IsLayerOf takes shaped input stages k layer
layer_of takes shaped input stages layers k layer are some within at_layer =
    let found = some_at stages (k - 1) (omega arith) in
    let known = layer_at takes shaped input stages layers (k - 1) found.0 layer are found.1 at_layer in
    let next : suc (k - 1) ≡ k = omega arith in
    record {
      stage = found.0;
      at = found.1;
      stands = known.stands;
      makes = known.makes
          ∙ ap (λ (n : ℕ). last_shape shaped input (take n stages)) next;
      is = known.is;
    }

-- what a stage answers to a shape is the shape of what it makes
pub shape_over : {S : Type 0} (takes : S → Shape → Type 0) (shaped : S → Shape → Shape) (stage : S) (input : Shape)
    (got : Option Shape)
    → (IsNone got → takes stage input → ⊥) → IfSome got (λ made. takes stage input × (made ≡ shaped stage input))
    → IsShapeOver takes shaped stage input got
shape_over takes shaped stage input None refuses makes =
    record { none = λ _. refuses refl; some = λ made is. absurd (none-some made is) }
shape_over takes shaped stage input (Some made) refuses makes =
    record {
      none = λ is taken. absurd (none-some made (sym is));
      some = λ other is. (makes.0, sym (same_Some made other is) ∙ makes.1);
    }
