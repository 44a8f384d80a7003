use Rattle.std.proofs.Common.{rules, subst, sym, ◌∙◌}
use Rattle.plane_view.specs.declared.Rect.{Rect}
use Rattle.plane_view.specs.Rows.{IsRowOf}
use Rattle.plane_view.specs.Lent.{sample_at}
use Rattle.stage_core.proofs.Formulas.{made_by}
use Rattle.opcode_stages.specs.Maps.{mapped_at}
use Rattle.opcode_stages.specs.MapLaws.{map_rests}
use Rattle.opcode_stages.proofs.map_table.MapTableStage.run.Goals as goal

pub returns-clause-made : goal.returns-clause-made
returns-clause-made g c =
    let m = c.args.self.now in
    let L = c.args.input.now in
    let whole = c.args._whole in
    let first = c.args.out.now in
    let f = mapped_at m (sample_at L) in
    made_by (λ t. t) (λ t at. mapped_at m at) whole L first.rect first c.write_rows.new.self c.requires.rect
    c.requires.input c.requires.output
    (map_rests m whole first.rect) c.write_rows.ensures.loan
    (c.write_rows.ensures.rows f
    (λ r old new row long_old long_new called.
    let at : Rect = c.rect-rect.result in
    let written : IsRowOf f at L.planes r new.now = search rules in
    subst (λ (n : _). IsRowOf f first.rect n r new.now) (c.requires.input ∙ sym c.requires.output)
    (subst (λ (x : Rect). IsRowOf f x L.planes r new.now) c.rect-rect.ensures written)))
