use Rattle.std.proofs.Common.{◌≡◌, ◌+◌, ◌-◌, ◌*◌, ◌∙◌, ap, sym, get_or, length, arith}
use Rattle.plane_view.proofs.RowParts.{row_part_point}
use Rattle.colour_matrix.specs.Matrices.{matrixed_value}
use Rattle.colour_matrix.proofs.matrix.map_row.Goals as goal

pub returns : goal.returns
returns c = λ m rows.
    let L = c.args.input.now in
    let left = c.args.rect.left in
    let right = c.args.rect.right in
    let from = c.row_part.result.now in
    let long : length from ≡ (right - left) * 3 = c.row_part.ensures.long ∙ ap (λ n. (right - left) * n)
    c.requires.planes in
    record {
      samples = λ k p pixel plane.
          let d = k - left in
          let at : d * 3 + 0 ≡ d * 3 = omega arith in
          let red_at = row_part_point from L c.args.r left right c.row_part.ensures k 0 d 3 (omega arith) (omega arith)
          (omega arith) (omega arith) in
          let red = ap (λ n. get_or from n 0) (sym at) ∙ red_at in
          let green = row_part_point from L c.args.r left right c.row_part.ensures k 1 d 3 (omega arith) (omega arith)
          (omega arith) (omega arith) in
          let blue = row_part_point from L c.args.r left right c.row_part.ensures k 2 d 3 (omega arith) (omega arith)
          (omega arith) (omega arith) in
          c.map_pixels.ensures m rows d p (omega arith) plane
          ∙ (λ z. matrixed_value m p (red z) (green z) (blue z));
    }
