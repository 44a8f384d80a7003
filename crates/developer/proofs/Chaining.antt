-- Stages that take one another, by their numbers: a session over them is opened, and takes another stage of the same
-- shapes.
use Rattle.std.proofs.Common.{◌≡◌, ℕ, zero, suc, ◌+◌, ◌-◌, ◌≤◌, List, [], ◌∷◌, length, take, slice_get, Option, None}
use Rattle.std.proofs.Common.{Some, refl, sym, ◌∙◌, ap, subst, arith}
use Rattle.std.proofs.lemmas.Option.{none-some, same_Some}
use Rattle.plane_view.specs.declared.Shape.{Shape}
use Rattle.stage_chain.specs.Chains.{TakeInTurn}
use Rattle.region_session.specs.Stacks.{IsFirstRefusal, IsShapeOver, last_shape, plane_shape}
use Rattle.region_session.proofs.Layering.{some_at}
use Rattle.dev_stages.specs.Changes.{AreLike}
use Rattle.dev_stages.specs.Members.{shaped_of, takes_of}
use Rattle.dev_stages.specs.declared.stage.DevStage.{DevStage}

-- a stage takes what those before it make, and makes the next shape
pub record IsAt (input : Shape) (stages : List DevStage) (i : ℕ) (stage : DevStage) : Type 0 where
  pub takes : takes_of stage (last_shape shaped_of input (take i stages))
  pub makes : last_shape shaped_of input (take (suc i) stages)
      ≡ shaped_of stage (last_shape shaped_of input (take i stages))

taken_at : (stages : List DevStage) (input : Shape) (i : ℕ) (stage : DevStage)
    → TakeInTurn takes_of shaped_of stages input → slice_get stages i ≡ Some stage → IsAt input stages i stage
taken_at [] input i stage takes at = absurd (none-some stage at)
taken_at (first ∷ stages) input zero stage takes at =
    let same : first ≡ stage = same_Some first stage at in
    record {
      takes = subst (λ (s : DevStage). takes_of s input) same takes.0;
      makes = ap (λ (s : DevStage). shaped_of s input) same;
    }
taken_at (first ∷ stages) input (suc i) stage takes at =
    let rest = taken_at stages (shaped_of first input) i stage takes.1 at in
    record { takes = rest.takes; makes = rest.makes }

-- none is refused
pub never_refused : (stages : List DevStage) (input : Shape) (k : ℕ) → TakeInTurn takes_of shaped_of stages input
    → IsFirstRefusal takes_of shaped_of stages input k → ⊥
never_refused stages input k takes is =
    let found = some_at stages (k - 1) (omega (arith, is.least, is.most)) in
    is.refuses found.0 found.1 (taken_at stages input (k - 1) found.0 takes found.1).takes

-- a stage like another has the shape that it had
like_shape : (stage : DevStage) (below had : Shape) (got : Option Shape) → takes_of stage below
    → had ≡ shaped_of stage below → IsShapeOver takes_of shaped_of stage below got → got ≡ Some had
like_shape stage below had None takes is over = absurd (over.none refl takes)
like_shape stage below had (Some made) takes is over = ap Some ((over.some made refl).1 ∙ sym is)

pub never_changed : (stages : List DevStage) (input : Shape) (k : ℕ) (stage : DevStage) (had : Shape)
    (got : Option Shape) → 1 ≤ k → k ≤ length stages → TakeInTurn takes_of shaped_of stages input
    → ((old : DevStage) → slice_get stages (k - 1) ≡ Some old → AreLike old stage)
    → had ≡ plane_shape shaped_of input stages k
    → IsShapeOver takes_of shaped_of stage (plane_shape shaped_of input stages (k - 1)) got → got ≡ Some had
never_changed stages input k stage had got least most takes like is over =
    let found = some_at stages (k - 1) (omega (arith, least, most)) in
    let at = taken_at stages input (k - 1) found.0 takes found.1 in
    let alike = like found.0 found.1 in
    let below : Shape = plane_shape shaped_of input stages (k - 1) in
    let next : suc (k - 1) ≡ k = omega (arith, least) in
    let made : had ≡ shaped_of stage below = is ∙ (ap (λ (n : ℕ). last_shape shaped_of input (take n stages)) (sym next)
    ∙ (at.makes ∙ sym (alike.shapes below))) in
    like_shape stage below had got (alike.takes below at.takes) made over
