use Rattle.std.proofs.Common.{rules, subst, sym}
use Rattle.plane_view.specs.declared.Rect.{Rect}
use Rattle.plane_view.specs.Plane.{coloured}
use Rattle.plane_view.specs.Rectangles.{grown, whole_rect}
use Rattle.plane_view.specs.Rows.{IsRowOf}
use Rattle.plane_view.specs.Lent.{sample_at}
use Rattle.stage_core.proofs.Formulas.{made_by}
use Rattle.malvar.specs.Demosaic.{demosaiced_at, table_of, reach_of}
use Rattle.malvar.specs.Mosaics.{cfa_of}
use Rattle.malvar.specs.Laws.{reads_near}
use Rattle.malvar.proofs.stage.DemosaicStage.run.Goals as goal

pub returns-clause-made : goal.returns-clause-made
returns-clause-made g c =
    let s = c.args.self.now in
    let L = c.args.input.now in
    let whole = c.args.whole in
    let first = c.args.out.now in
    let f = demosaiced_at (table_of s.kind) (cfa_of s) whole.rows whole.cols (sample_at L) in
    made_by coloured (λ t at. demosaiced_at (table_of s.kind) (cfa_of s) t.rows t.cols at) whole L
    (grown first.rect (reach_of s.kind) (whole_rect whole.rows whole.cols)) first c.write_rows.new.self
    c.requires.rect c.requires.input c.requires.output
    (reads_near s.kind (cfa_of s) whole first.rect c.requires.takes c.requires.rect) c.write_rows.ensures.loan
    (c.write_rows.ensures.rows f
    (λ r old new row long_old long_new called.
    let at : Rect = c.rect-rect.result in
    let written : IsRowOf f at 3 r new.now = search rules in
    subst (λ (n : _). IsRowOf f first.rect n r new.now) (sym c.requires.output)
    (subst (λ (x : Rect). IsRowOf f x 3 r new.now) c.rect-rect.ensures written)))
