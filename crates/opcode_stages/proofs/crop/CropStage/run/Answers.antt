use Rattle.std.proofs.Common.{rules, ◌+◌, ◌-◌, subst, arith}
use Rattle.plane_view.specs.declared.Rect.{Rect}
use Rattle.plane_view.specs.Rectangles.{shifted}
use Rattle.plane_view.specs.Lent.{IsRowPart, sample_at}
use Rattle.plane_view.proofs.RowParts.{row_part_point}
use Rattle.stage_core.proofs.Formulas.{made_by}
use Rattle.opcode_stages.specs.Crops.{cropped_shape, cropped_at}
use Rattle.opcode_stages.specs.CropLaws.{crop_rests}
use Rattle.opcode_stages.proofs.crop.CropStage.run.Goals as goal

pub returns-clause-made : goal.returns-clause-made
returns-clause-made g c =
    let q = c.args.self.now.rect in
    let input = c.args.input.now in
    let whole = c.args._whole in
    let first = c.args.out.now in
    let f = cropped_at q (sample_at input) in
    made_by (cropped_shape q) (λ _ at. cropped_at q at) whole input (shifted first.rect q.top q.left) first
    c.write_rows.new.self c.requires.rect c.requires.input c.requires.output
    (crop_rests q whole first.rect) c.write_rows.ensures.loan
    (c.write_rows.ensures.rows f
    (λ r old new row long_old long_new called.
    let at : Rect = c.rect-rect.result in
    let copied : IsRowPart new.now input (q.top + r) (q.left + at.left) (q.left + at.right) = search rules in
    let row_part = subst (λ (x : Rect). IsRowPart new.now input (q.top + r) (q.left + x.left) (q.left + x.right))
    c.rect-rect.ensures copied in
    record {
      samples = λ k p pixel plane. row_part_point new.now input (q.top + r) (q.left + first.rect.left)
          (q.left + first.rect.right) row_part (q.left + k) p (k - first.rect.left) first.planes (omega arith)
          (omega arith)
          (omega arith) (omega arith);
    }))
