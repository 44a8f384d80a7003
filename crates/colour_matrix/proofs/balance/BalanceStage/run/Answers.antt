use Rattle.std.proofs.Common.{rules, subst, sym, ◌∙◌}
use Rattle.plane_view.specs.declared.Rect.{Rect}
use Rattle.plane_view.specs.Rows.{IsRowOf}
use Rattle.plane_view.specs.Lent.{sample_at}
use Rattle.stage_core.proofs.Formulas.{made_by}
use Rattle.colour_matrix.specs.Balances.{Balancing, balanced_at}
use Rattle.colour_matrix.specs.inner.Factors.{AreFactors}
use Rattle.colour_matrix.specs.Laws.{balanced_rests}
use Rattle.colour_matrix.proofs.balance.BalanceStage.run.Goals as goal

pub returns-clause-made : goal.returns-clause-made
returns-clause-made g c =
    let s = c.args.self.now in
    let L = c.args.input.now in
    let whole = c.args._whole in
    let first = c.args.out.now in
    let f = balanced_at s (sample_at L) in
    made_by (λ t. t) (λ t at. balanced_at s at) whole L first.rect first c.write_rows.new.self c.requires.rect
    c.requires.input c.requires.output
    (balanced_rests s whole.planes first.rect) c.write_rows.ensures.loan
    (c.write_rows.ensures.rows f
    (λ r old new row long_old long_new called.
    let at : Rect = c.rect-rect.result in
    let factors = c.new-factors.result in
    let every : (t : Balancing) → AreFactors t factors → IsRowOf (balanced_at t (sample_at L)) at 3 r new.now =
    search rules in
    let written : IsRowOf f at 3 r new.now =
    every s (subst (λ (t : Balancing). AreFactors t factors) c.self.view_is c.new-factors.ensures) in
    subst (λ (n : _). IsRowOf f first.rect n r new.now) (sym (c.requires.output ∙ c.requires.takes))
    (subst (λ (x : Rect). IsRowOf f x 3 r new.now) c.rect-rect.ensures written)))
