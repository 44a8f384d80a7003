use Rattle.std.proofs.Common.{◌≡◌, ◌+◌, ◌∷◌, drop, sym, ◌∙◌, ap, subst, arith}
use Rattle.std.proofs.lemmas.List.{drop_more}
use Rattle.plane_view.specs.declared.Shape.{Shape}
use Rattle.plane_view.specs.Plane.{Plane}
use Rattle.stage_core.specs.Stages.{shape_of}
use Rattle.stage_chain.specs.Chains.{TakeInTurn, whole_of}
use Rattle.stage_chain.proofs.running.run_in_turn.Goals as goal

pub loop-stage-preserved : goal.loop-stage-preserved
loop-stage-preserved g c =
    let l = c.loop-stage in
    let stage = c.stage-item.result in
    let P : Plane = l.plane in
    let Q : Plane = g.S.Stage.apply stage P in
    let later = drop (l.stage-index + 1) c.args.stages.now in
    let next = drop_more c.args.stages.now l.stage-index stage (omega arith)
    ∙ ap (λ first. first ∷ later) (sym c.stage-item.is) in
    let takes = subst (λ xs. TakeInTurn g.S.Stage.takes g.S.Stage.shaped xs (shape_of P)) next l.invariant.takes in
    let same = subst (λ xs. whole_of g.S.Stage.apply xs P ≡ whole_of g.S.Stage.apply c.args.stages.now c.args.plane)
    next l.invariant.same in
    let made : c.in_ok-made.made ≡ Q = c.in_ok-made.ensures.made in
    let shape : g.S.Stage.shaped stage (shape_of P) ≡ shape_of c.in_ok-made.made = sym c.in_ok-made.ensures.shape in
    record {
      takes = subst (λ (t : Shape). TakeInTurn g.S.Stage.takes g.S.Stage.shaped later t) shape takes.1;
      same = ap (whole_of g.S.Stage.apply later) made ∙ same;
      work = omega (arith, l.invariant.work, c.in_ok-made.ensures.work);
    }
