use Rattle.std.proofs.Common.{◌≡◌, sym, ◌∙◌}
use Rattle.dng_tags.specs.Black.{row_by_row}
use Rattle.linearise.specs.inner.Held.{black_in}
use Rattle.linearise.proofs.BlackLevels.{area_points, area_same}
use Rattle.linearise.proofs.blacks.Blacks.same.Goals as goal

pub returns-else-is_held_alike : goal.returns-else-is_held_alike
returns-else-is_held_alike c =
    let a = c.args.self.now in
    let b = c.args.other.now in
    let sized : row_by_row b.rows b.cols (black_in b) ≡ row_by_row a.rows a.cols (black_in b) =
    λ i. row_by_row (sym c.requires.rows i) (sym c.requires.cols i) (black_in b) in (
      λ yes. area_same a.rows a.cols (black_in a) (black_in b) a.valid.sides.some_cols
          (λ r k in_rows in_cols. c.same_rows.ensures.0 yes r in_rows k in_cols) ∙ sym sized,
      λ same. c.same_rows.ensures.1 (λ r in_rows k in_cols. area_points a.rows a.cols (black_in a) (black_in b) (same
          ∙ sized) r k in_rows in_cols),
    )
