use Rattle.std.proofs.Common.{rules, subst, sym, ◌∙◌}
use Rattle.plane_view.specs.declared.Rect.{Rect}
use Rattle.plane_view.specs.Rectangles.{grown, whole_rect}
use Rattle.plane_view.specs.Rows.{IsRowOf}
use Rattle.plane_view.specs.Lent.{sample_at}
use Rattle.stage_core.proofs.Formulas.{made_by}
use Rattle.opcode_stages.specs.Mends.{mended_at, equals}
use Rattle.opcode_stages.specs.MendStages.{constant_of, phase_of}
use Rattle.opcode_stages.specs.MendLaws.{mend_rests, equals_rests}
use Rattle.opcode_stages.proofs.fix_constant.FixConstantStage.run.Goals as goal

pub returns-clause-made : goal.returns-clause-made
returns-clause-made g c =
    let s = c.args.self.now in
    let L = c.args.input.now in
    let whole = c.args.whole in
    let first = c.args.out.now in
    let bad = equals (constant_of s) in
    let f = mended_at (bad (sample_at L)) (phase_of s) whole.rows whole.cols (sample_at L) in
    made_by (λ t. t) (λ t at. mended_at (bad at) (phase_of s) t.rows t.cols at) whole L
    (grown first.rect 2 (whole_rect whole.rows whole.cols)) first c.write_rows.new.self c.requires.rect
    c.requires.input c.requires.output
    (mend_rests bad (equals_rests (constant_of s)) (phase_of s) whole first.rect c.requires.takes c.requires.rect)
    c.write_rows.ensures.loan
    (c.write_rows.ensures.rows f
    (λ r old new row long_old long_new called.
    let at : Rect = c.rect-rect.result in
    let written : IsRowOf f at 1 r new.now = search rules in
    subst (λ (n : _). IsRowOf f first.rect n r new.now) (sym (c.requires.output ∙ c.requires.takes))
    (subst (λ (x : Rect). IsRowOf f x 1 r new.now) c.rect-rect.ensures written)))
