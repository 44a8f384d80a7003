use Rattle.std.proofs.Common.{rules, ◌≡◌, ℕ, List, true, false, sym, ◌∙◌, ap, subst, arith}
use Rattle.std.proofs.lemmas.List.{length-replicate}
use Rattle.std.proofs.lemmas.Result.{err_from_is_err_and}
use Rattle.plane_view.specs.declared.Shape.{Shape}
use Rattle.plane_view.specs.Plane.{Plane}
use Rattle.stage_core.proofs.Formulas.{shape_is}
use Rattle.stage_core.specs.Stages.{shape_of}
use Rattle.stage_chain.specs.Chains.{TakeInTurn}
use Rattle.tile_cache.specs.Pairs.{Cache}
use Rattle.kept_cells.specs.Tiers.{tiers_of}
use Rattle.kept_cells.specs.Tiling.{held_in}
use Rattle.region_session.specs.inner.Layers.{AreLayers}
use Rattle.region_session.specs.Stacks.{IsFirstRefusal}
use Rattle.region_session.proofs.Layering.{in_turn}
use Rattle.region_session.proofs.Replacing.{nothing_right}
use Rattle.region_session.proofs.session.Session.open.Goals as goal

pub returns-in_err-layers-clause-refused : goal.returns-in_err-layers-clause-refused
returns-in_err-layers-clause-refused g c =
    let p = err_from_is_err_and c.from_residual.result c.from_residual.ensures.1 in
    let P : Plane = g.B.Base.plane c.args.base in
    rw (p.1, p.2)
    (λ k is.
    subst (λ (t : Shape). IsFirstRefusal g.S.Stage.takes g.S.Stage.shaped c.args.stages.items t k)
    (sym (shape_is P c.shape.result c.shape.ensures.plane))
    (subst (λ (xs : List _). IsFirstRefusal g.S.Stage.takes g.S.Stage.shaped xs c.shape.result k) c.deref.ensures.value
    (c.in_err-layers.ensures.refused k is)))

pub returns-clause-takes : goal.returns-clause-takes
returns-clause-takes g c =
    let P : Plane = g.B.Base.plane c.args.base in
    subst (λ (t : Shape). TakeInTurn g.S.Stage.takes g.S.Stage.shaped c.args.stages.items t)
    (sym (shape_is P c.shape.result c.shape.ensures.plane))
    (subst (λ (xs : List _). TakeInTurn g.S.Stage.takes g.S.Stage.shaped xs c.shape.result) c.deref.ensures.value
    (in_turn g.S.Stage.takes g.S.Stage.shaped c.shape.result c.deref.result.now c.in_ok-layers.layers.items
    c.in_ok-layers.ensures.layers))

pub invariant_of-result : goal.invariant_of-result
invariant_of-result g c =
    let takes = g.S.Stage.takes in
    let shaped = g.S.Stage.shaped in
    let P : Plane = g.B.Base.plane c.args.base in
    let tiles = c.in_ok-tiles.tiles in
    let stamps : List ℕ = tiles.stamps.stamps in
    let made : tiles.cells ≡ _ = c.in_ok-tiles.ensures.cells in
    let none : (p k : ℕ) → (held_in tiles.cells stamps).holds p k ≡ false =
    λ p k. ap (λ (d : Cache). (held_in d stamps).holds p k) made in
    record {
      same = c.in_ok-cells.ensures;
      stand =
          subst (λ (t : Shape). AreLayers takes shaped t c.args.stages.items c.in_ok-layers.layers.items)
          (sym (shape_is P c.shape.result c.shape.ensures.plane))
          (subst (λ (xs : List _). AreLayers takes shaped c.shape.result xs c.in_ok-layers.layers.items)
          c.deref.ensures.value c.in_ok-layers.ensures.layers);
      some = c.requires.some;
      few = c.requires.few;
      room = search rules;
      least = c.requires.least;
      most = c.requires.most;
      stamped = search (rules, length-replicate);
      slots = ap (λ (d : Cache). d.slots) made;
      small = omega (arith, c.requires.budget, ap (λ (d : Cache). d.budget) made);
      base_right = λ k below now. let both : true ≡ false = sym now ∙ none 0 k in cc;
      right = nothing_right g.S.Stage.apply (held_in tiles.cells stamps) 0 P
          (tiers_of shaped c.args.side (shape_of P) c.args.stages.items) (λ p k high low. none p k);
    }
