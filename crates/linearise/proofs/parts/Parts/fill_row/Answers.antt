use Rattle.std.proofs.Common.{◌≡◌, ℕ, ◌+◌, ◌-◌, ◌*◌, ◌%◌, get_or, pos, to_z, of_z, sym, ◌∙◌, ap, arith}
use Rattle.std.specs.Prelude.{◌+ℤ◌}
use Rattle.std.specs.Int.{w32}
use Rattle.std.proofs.lemmas.Int.{ints}
use Rattle.plane_view.specs.Lent.{sample_at}
use Rattle.plane_view.proofs.RowParts.{row_part_point}
use Rattle.linearise.specs.inner.Held.{black_in}
use Rattle.linearise.specs.Linear.{by_table, linear_at}
use Rattle.linearise.specs.Parameters.{black_of}
use Rattle.linearise.specs.inner.Seen.{seen}
use Rattle.linearise.proofs.BlackLevels.{area_at}
use Rattle.linearise.proofs.parts.Parts.fill_row.Goals as goal

pub returns : goal.returns
returns c =
    let s = c.args.self.now in
    let b = s.blacks in
    let L = c.args.input.now in
    let rect = c.args.rect in
    let r = c.args.r in
    let down = to_z w32 (of_z w32 c.down.result) in
    let down_is : down ≡ c.down.result = omega (arith, ints, c.down.ensures.within) in
    record {
      samples = λ k p pixel plane.
          let j : ℕ = k - rect.left in
          let at : (k - rect.left) * 1 + p ≡ j = omega arith in
          let column : rect.left + j ≡ k = omega arith in
          let black : get_or c.row-across.result.now j (pos 0) +ℤ down ≡ black_of (seen s) r k =
          (λ i. (c.row-across.ensures.levels j (omega arith)
          ∙ ap (λ n. get_or b.across (r % b.repeat * b.cols + n) (pos 0)) column) i +ℤ (down_is
          ∙ c.down.ensures.value) i)
          ∙ sym (area_at b.rows b.cols (black_in b) r k (omega arith) (omega arith)) in
          let sample : get_or c.row_part-samples.result.now j 0 ≡ sample_at L r k p =
          ap (λ n. get_or c.row_part-samples.result.now n 0) (sym at)
          ∙ row_part_point c.row_part-samples.result.now L r rect.left rect.right c.row_part-samples.ensures k p j 1
          (sym column)
          (sym c.requires.planes) (omega arith) (omega arith) in
          ap (λ n. get_or c.make_linear.new.out n 0) at
          ∙ c.make_linear.ensures.done j (omega arith)
          ∙ ap (λ z. linear_at (pos s.scale.span) z (get_or c.look_up.new.out j 0)) black
          ∙ ap (λ v. linear_at (pos s.scale.span) (black_of (seen s) r k) v) (c.look_up.ensures.values j (omega arith)
          ∙ ap (λ t. by_table t (get_or c.row_part-samples.result.now j 0)) c.as_slice.ensures
          ∙ ap (by_table s.table) sample);
    }
