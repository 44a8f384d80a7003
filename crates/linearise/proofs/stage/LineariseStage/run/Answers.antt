use Rattle.std.proofs.Common.{ℕ, rules, subst, sym, ◌∙◌}
use Rattle.plane_view.specs.declared.Rect.{Rect}
use Rattle.plane_view.specs.Rows.{IsRowOf}
use Rattle.plane_view.specs.Lent.{sample_at}
use Rattle.stage_core.proofs.Formulas.{made_by}
use Rattle.linearise.specs.Laws.{linear_rests}
use Rattle.linearise.specs.Parameters.{Parameters, linear_of}
use Rattle.linearise.specs.inner.Seen.{seen}
use Rattle.linearise.proofs.stage.LineariseStage.run.Goals as goal

pub returns-clause-made : goal.returns-clause-made
returns-clause-made g c =
    let s = c.args.self.now in
    let L = c.args.input.now in
    let whole = c.args._whole in
    let first = c.args.out.now in
    let f = linear_of s (sample_at L) in
    made_by (λ t. t) (λ t at. linear_of s at) whole L first.rect first c.write_rows.new.self c.requires.rect
    c.requires.input c.requires.output
    (linear_rests s whole.planes first.rect) c.write_rows.ensures.loan
    (c.write_rows.ensures.rows f
    (λ r old new row long_old long_new called.
    let at : Rect = c.rect-rect.result in
    let written : IsRowOf (linear_of (seen c.self.inside.parts) (sample_at L)) at 1 r new.now = search rules in
    let meant : IsRowOf f at 1 r new.now =
    subst (λ (p : Parameters). IsRowOf (linear_of p (sample_at L)) at 1 r new.now) c.self.view_is written in
    subst (λ (n : ℕ). IsRowOf f first.rect n r new.now) (sym (c.requires.output ∙ c.requires.takes.planes))
    (subst (λ (x : Rect). IsRowOf f x 1 r new.now) c.rect-rect.ensures meant)))
