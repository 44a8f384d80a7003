use Rattle.std.proofs.Common.{◌≡◌, ◌+◌, ◌-◌, ◌*◌, ◌%◌, ◌<◌, ◌∙◌, length, arith}
use Rattle.std.specs.Prelude.{slice_index}
use Rattle.std.proofs.lemmas.Nat.{mod-mul-add}
use Rattle.plane_view.proofs.RowParts.{row_part_point, row_part_index}
use Rattle.colour_matrix.specs.Balances.{balanced_value}
use Rattle.colour_matrix.proofs.balance.balance_row.Goals as goal

pub returns : goal.returns
returns c = λ s factors.
    let L = c.args.input.now in
    let left = c.args.rect.left in
    let right = c.args.rect.right in
    let from = c.row_part.result.now in
    record {
      samples = λ k p pixel plane.
          let d = k - left in
          let i = d * 3 + p in
          let inside : i < length from = row_part_index from L c.args.r left right c.row_part.ensures d p 3
          (omega arith)
          (omega arith) plane in
          let is : i % 3 ≡ p = mod-mul-add d 3 p plane in
          c.balance_samples.ensures s factors i inside
          ∙ (λ z. balanced_value (slice_index s.gains (is z)) s.exposure
          (row_part_point from L c.args.r left right c.row_part.ensures k p d 3 (omega arith) (omega arith)
          (omega arith)
          (omega arith) z));
    }
