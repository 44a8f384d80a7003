use Rattle.std.proofs.Common.{rules, subst, sym, ◌∙◌, List, ℕ}
use Rattle.plane_view.specs.declared.Rect.{Rect}
use Rattle.plane_view.specs.Rows.{IsRowOf}
use Rattle.plane_view.specs.Lent.{sample_at}
use Rattle.stage_core.proofs.Formulas.{made_by}
use Rattle.tone_table.specs.Tones.{entry_at}
use Rattle.tone_table.specs.Laws.{entry_rests}
use Rattle.tone_table.proofs.tone.ToneStage.run.Goals as goal

pub returns-clause-made : goal.returns-clause-made
returns-clause-made g c =
    let s = c.args.self.now in
    let L = c.args.input.now in
    let whole = c.args._whole in
    let first = c.args.out.now in
    let f = entry_at s (sample_at L) in
    made_by (λ t. t) (λ t at. entry_at s at) whole L first.rect first c.write_rows.new.self c.requires.rect
    c.requires.input c.requires.output
    (entry_rests s whole.planes first.rect) c.write_rows.ensures.loan
    (c.write_rows.ensures.rows f
    (λ r old new row long_old long_new called.
    let at : Rect = c.rect-rect.result in
    let table = c.as_slice-table.result.now in
    let written : IsRowOf (entry_at table (sample_at L)) at 3 r new.now = search rules in
    let same : IsRowOf f at 3 r new.now = subst (λ (t : List ℕ). IsRowOf (entry_at t (sample_at L)) at 3 r new.now)
    (c.as_slice-table.ensures ∙ c.self.view_is) written in
    subst (λ (n : _). IsRowOf f first.rect n r new.now) (sym (c.requires.output ∙ c.requires.takes))
    (subst (λ (x : Rect). IsRowOf f x 3 r new.now) c.rect-rect.ensures same)))
