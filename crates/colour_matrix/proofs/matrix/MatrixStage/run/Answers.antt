use Rattle.std.proofs.Common.{rules, subst, sym, ◌∙◌, List, ℤ}
use Rattle.plane_view.specs.declared.Rect.{Rect}
use Rattle.plane_view.specs.Rows.{IsRowOf}
use Rattle.plane_view.specs.Lent.{sample_at}
use Rattle.stage_core.proofs.Formulas.{made_by}
use Rattle.colour_matrix.specs.Matrices.{matrixed_at}
use Rattle.colour_matrix.specs.inner.MatrixRows.{AreRows}
use Rattle.colour_matrix.specs.Laws.{matrixed_rests}
use Rattle.colour_matrix.proofs.matrix.MatrixStage.run.Goals as goal

pub returns-clause-made : goal.returns-clause-made
returns-clause-made g c =
    let s = c.args.self.now in
    let L = c.args.input.now in
    let whole = c.args._whole in
    let first = c.args.out.now in
    let f = matrixed_at s (sample_at L) in
    made_by (λ t. t) (λ t at. matrixed_at s at) whole L first.rect first c.write_rows.new.self c.requires.rect
    c.requires.input c.requires.output
    (matrixed_rests s whole.planes first.rect c.requires.takes) c.write_rows.ensures.loan
    (c.write_rows.ensures.rows f
    (λ r old new row long_old long_new called.
    let at : Rect = c.rect-rect.result in
    let rows = c.new-rows.result in
    let every : (t : List ℤ) → AreRows t rows → IsRowOf (matrixed_at t (sample_at L)) at 3 r new.now = search rules in
    let written : IsRowOf f at 3 r new.now =
    every s (subst (λ (t : List ℤ). AreRows t rows) c.self.view_is c.new-rows.ensures.rows) in
    subst (λ (n : _). IsRowOf f first.rect n r new.now) (sym (c.requires.output ∙ c.requires.takes))
    (subst (λ (x : Rect). IsRowOf f x 3 r new.now) c.rect-rect.ensures written)))
