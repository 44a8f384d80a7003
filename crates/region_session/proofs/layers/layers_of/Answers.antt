use Rattle.std.proofs.Common.{rules, ◌≡◌, ℕ, ◌+◌, ◌-◌, List, [], ◌∷◌, ◌++◌, length, take, slice_get, Some, refl, sym}
use Rattle.std.proofs.Common.{◌∙◌, ap, subst, arith}
use Rattle.std.proofs.lemmas.List.{length-take-le}
use Rattle.std.proofs.lemmas.Option.{same_Some, slice_get_read}
use Rattle.plane_view.specs.declared.Shape.{Shape}
use Rattle.plane_view.specs.Shapes.{IsShape}
use Rattle.stage_chain.specs.Chains.{TakeInTurn}
use Rattle.region_session.specs.declared.layers.Layer.{Layer}
use Rattle.region_session.specs.inner.Layers.{AreLayers}
use Rattle.region_session.specs.Stacks.{last_shape}
use Rattle.region_session.proofs.Layering.{in_turn, layers_push, take_next}
use Rattle.region_session.proofs.Top.{as_many, shape_last}
use Rattle.region_session.proofs.layers.layers_of.Goals as goal

pub overflow_add-result : goal.overflow_add-result
overflow_add-result g c =
    let many = as_many g.S.Stage.takes g.S.Stage.shaped c.args.input (take c.loop-stage.stage-index c.args.stages.now)
    c.loop-stage.layers.items c.loop-stage.invariant.stand in
    let long = length-take-le c.loop-stage.stage-index c.args.stages.now (omega arith) in
    omega (arith, many, long, c.len.ensures, c.requires.few, c.loop-stage.layers.ok)

pub overflow_cast-result : goal.overflow_cast-result
overflow_cast-result g c =
    let many = as_many g.S.Stage.takes g.S.Stage.shaped c.args.input (take c.loop-stage.stage-index c.args.stages.now)
    c.loop-stage.layers.items c.loop-stage.invariant.stand in
    let long = length-take-le c.loop-stage.stage-index c.args.stages.now (omega arith) in
    omega (arith, many, long, c.len.ensures, c.requires.few, c.loop-stage.layers.ok)

pub returns-in_default-clause-refused : goal.returns-in_default-clause-refused
returns-in_default-clause-refused g c = λ k is.
    let takes = g.S.Stage.takes in
    let shaped = g.S.Stage.shaped in
    let input : Shape = c.args.input in
    let stages = c.args.stages.now in
    let i : ℕ = c.loop-stage.stage-index in
    let item = c.stage-item.result in
    let many = as_many takes shaped input (take i stages) c.loop-stage.layers.items c.loop-stage.invariant.stand in
    let long = length-take-le i stages (omega arith) in
    let number : c.len.result + 1 ≡ k = cc in
    let back : k - 1 ≡ i = omega (arith, many, long, c.len.ensures, c.loop-stage.layers.ok) in
    record {
      least = omega arith;
      most = omega (arith, back);
      before = subst (λ (n : ℕ). TakeInTurn takes shaped (take n stages) input) (sym back)
          (in_turn takes shaped input (take i stages) c.loop-stage.layers.items c.loop-stage.invariant.stand);
      refuses = λ stage at taken.
          let here : slice_get stages i ≡ Some item = slice_get_read stages (length stages) i item refl (omega arith)
          c.stage-item.is in
          let there : slice_get stages i ≡ Some stage = subst (λ (n : ℕ). slice_get stages n ≡ Some stage) back at in
          let same : stage ≡ item = same_Some stage item (sym there ∙ here) in
          let shape : last_shape shaped input (take (k - 1) stages) ≡ c.loop-stage.input =
          ap (λ (n : ℕ). last_shape shaped input (take n stages)) back ∙ sym c.loop-stage.invariant.is in
          c.in_default.ensures.none.0 (search rules) (subst (λ (s : _). takes s c.loop-stage.input) same
          (subst (λ (t : Shape). takes stage t) shape taken));
    }

pub loop-stage-preserved : goal.loop-stage-preserved
loop-stage-preserved g c =
    let takes = g.S.Stage.takes in
    let shaped = g.S.Stage.shaped in
    let input : Shape = c.args.input in
    let stages = c.args.stages.now in
    let i : ℕ = c.loop-stage.stage-index in
    let item = c.stage-item.result in
    let below : Shape = c.loop-stage.input in
    let layer : Layer = record { input = below; shape = c.in-Some.shape } in
    let told = c.in-Some.ensures.some in
    let here : slice_get stages i ≡ Some item = slice_get_read stages (length stages) i item refl (omega arith)
    c.stage-item.is in
    let next = take_next stages i item here in
    let stand = layers_push takes shaped input (take i stages) item c.loop-stage.layers.items layer
    c.loop-stage.invariant.stand c.loop-stage.invariant.is
    (record { input = c.loop-stage.invariant.shape; taken = told.0; shape = told.1 }) in
    record {
      shape = subst IsShape (sym told.1) (g.met.S.Stage.makes_shapes item below c.loop-stage.invariant.shape told.0);
      is = told.1 ∙ ap (shaped item) c.loop-stage.invariant.is ∙ sym (shape_last shaped input (take i stages) item)
          ∙ ap (last_shape shaped input) (sym next);
      stand = subst (λ (xs : List Layer). AreLayers takes shaped input (take (i + 1) stages) xs)
          (sym c.in-Ok.ensures.items)
          (subst (λ (xs : List _). AreLayers takes shaped input xs (c.loop-stage.layers.items ++ layer ∷ [])) (sym next)
          stand);
    }
