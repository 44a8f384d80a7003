use Rattle.std.proofs.Common.{rules, ◌≡◌, ◌∙◌, ap, subst, sym}
use Rattle.plane_view.specs.declared.Rect.{Rect}
use Rattle.plane_view.specs.declared.Shape.{Shape}
use Rattle.plane_view.specs.Lent.{AgreesWith, Lent}
use Rattle.plane_view.specs.Rectangles.{whole_rect}
use Rattle.plane_view.specs.Plane.{Plane}
use Rattle.plane_view.specs.Tiles.{loan, tile_rect}
use Rattle.stage_core.specs.Planes.{IsPlane}
use Rattle.stage_core.proofs.FetchedCells.{whole_rect_is, whole_samples}
use Rattle.stage_chain.specs.inner.Samples.{plane_with}
use Rattle.stage_chain.proofs.WholeViews.{whole_agrees, whole_with}
use Rattle.stage_chain.proofs.running.run_whole.Goals as goal

pub returns-clause-samples : goal.returns-clause-samples
returns-clause-samples g c =
    let whole = c.args.whole in
    let s = c.args.stage.now in
    let P : Plane = plane_with whole c.args.input.now in
    let is_P = whole_with whole c.args.input.now c.requires.input in
    let Q : Plane = g.S.Stage.apply s P in
    let is_Q : IsPlane Q (g.S.Stage.shaped s whole) = g.met.S.Stage.makes_planes s whole P c.requires.whole
    c.requires.takes is_P in
    let out = c.run.new.out in
    let view = whole_agrees whole c.args.input.now c.new-view.result _ (c.new-view.ensures
    ∙ ap (λ (R : Rect). record { rect = R; planes = whole.planes; samples = c.args.input.now }) c.rect.ensures) in
    let agrees : AgreesWith Q (loan out) (tile_rect out) = c.run.ensures.made P is_P view in
    let made : (loan out).rect ≡ whole_rect c.args.made.rows c.args.made.cols = c.run.ensures.loan.home
    ∙ (ap (λ (L : Lent). L.rect) c.new-tile.ensures.lent ∙ c.rect-2.ensures) in
    let home : (loan out).rect ≡ whole_rect Q.rows Q.cols =
    made ∙ (ap (λ (t : Shape). whole_rect t.rows t.cols) c.requires.made
    ∙ whole_rect_is Q (g.S.Stage.shaped s whole) is_Q) in
    let tile : tile_rect out ≡ (loan out).rect =
    c.run.ensures.loan.rect ∙ (c.new-tile.ensures.rect ∙ (ap (λ (L : Lent). L.rect) (sym c.new-tile.ensures.lent)
    ∙ sym c.run.ensures.loan.home)) in
    (search rules) ∙ whole_samples Q (loan out) is_Q.whole home out.long
    (subst (λ (R : Rect). AgreesWith Q (loan out) R) tile agrees)
