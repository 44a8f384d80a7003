use Rattle.std.proofs.Common.{rules, ◌≡◌, ◌∙◌, ap, subst, sym}
use Rattle.plane_view.specs.declared.Rect.{Rect}
use Rattle.plane_view.specs.Lent.{AgreesWith, Lent}
use Rattle.plane_view.specs.Rectangles.{whole_rect}
use Rattle.plane_view.specs.Plane.{Plane}
use Rattle.plane_view.specs.Tiles.{loan}
use Rattle.stage_core.proofs.FetchedCells.{whole_rect_is, whole_samples}
use Rattle.stage_core.proofs.fetching.fetch_all.Goals as goal

pub returns-clause-samples : goal.returns-clause-samples
returns-clause-samples g c =
    let P : Plane = g.B.Base.plane c.args.base.now in
    let tile = c.fetch_cells.new.tile in
    let lent : (loan c.new-tile.result).rect ≡ whole_rect P.rows P.cols =
    ap (λ (L : Lent). L.rect) c.new-tile.ensures.lent
    ∙ (c.rect.ensures ∙ whole_rect_is P c.shape-shape.result c.shape-shape.ensures.plane) in
    let is : (loan tile).rect ≡ whole_rect P.rows P.cols = c.fetch_cells.ensures.rect ∙ lent in
    let agrees : AgreesWith P (loan tile) (loan tile).rect = subst (λ (R : Rect). AgreesWith P (loan tile) R)
    (sym c.fetch_cells.ensures.rect) c.fetch_cells.ensures.samples in
    (search rules) ∙ whole_samples P (loan tile) c.shape-shape.ensures.plane.whole is tile.long agrees
