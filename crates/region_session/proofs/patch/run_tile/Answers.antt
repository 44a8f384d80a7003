use Rattle.std.proofs.Common.{rules, sym, ◌∙◌, subst}
use Rattle.plane_view.specs.declared.Rect.{Rect}
use Rattle.plane_view.specs.Lent.{AgreesWith, Lent}
use Rattle.plane_view.specs.Plane.{Plane}
use Rattle.plane_view.specs.Tiles.{loan}
use Rattle.stage_core.specs.Planes.{IsPlane}
use Rattle.region_session.proofs.Writing.{slice_copies, tile_copies}
use Rattle.region_session.proofs.patch.run_tile.Goals as goal

pub returns-clause-made : goal.returns-clause-made
returns-clause-made g c P is_P agrees =
    let s = c.args.stage.now in
    let input = c.args.input in
    let Q : Plane = g.S.Stage.apply s P in
    let L : Lent = record { rect = c.args.rect; planes = c.args.planes; samples = c.args.samples.now } in
    let moved = c.focus.new.self in
    let out = c.run.new.out in
    let is_Q : IsPlane Q (g.S.Stage.shaped s input) = g.met.S.Stage.makes_planes s input P c.requires.shape
    c.requires.takes is_P in
    let over = subst (λ (x : Rect). AgreesWith P c.args.lower.now (g.S.Stage.needed s input x))
    (sym c.focus.ensures.rect) agrees in
    let made = subst (λ (x : Rect). AgreesWith Q (loan out) x) c.run.ensures.loan.rect (c.run.ensures.made P is_P over)
    in
    slice_copies Q L moved out c.args.cell _
    (tile_copies Q c.new-tile.result moved out L c.args.cell c.new-tile.ensures.lent c.focus.ensures.loan
    c.focus.ensures.rect c.run.ensures.loan (is_Q.shape.planes ∙ sym c.requires.planes) made)
    (c.focus.ensures.loan ∙ c.new-tile.ensures.lent) c.run.ensures.loan (search rules)
