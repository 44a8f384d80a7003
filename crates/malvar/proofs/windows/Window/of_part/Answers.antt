use Rattle.std.proofs.Common.{◌≡◌, ℕ, ℤ, ◌+◌, ◌-◌, ◌*◌, ◌∙◌, List, length, pos, ◌-ℤ◌, subst, ap, arith}
use Rattle.std.proofs.lemmas.Int.{ints}
use Rattle.plane_view.specs.Lent.{Lent, IsRowPart}
use Rattle.plane_view.specs.Reflect.{reflected}
use Rattle.malvar.specs.Demosaic.{reach_of}
use Rattle.malvar.proofs.windows.Window.of_part.Goals as goal

-- the same part, of a row in another spelling
of_row : (xs : List ℕ) (L : Lent) (rows left right : ℕ) (x y : ℤ) → IsRowPart xs L (reflected rows x) left right → x ≡ y
    → IsRowPart xs L (reflected rows y) left right
of_row xs L rows left right x y row_part same = subst (λ (z : ℤ). IsRowPart xs L (reflected rows z) left right) same
    row_part

pub returns-clause-rows : goal.returns-clause-rows
returns-clause-rows c =
    let L = c.args.input.now in
    let part = c.args.part in
    let rows = c.args.whole.rows in
    let r = c.args.r in
    let by = reach_of c.args.kind in
    let w : ℕ = part.right - part.left in
    let long : length c.row_part.result.now ≡ w * 1 = c.row_part.ensures.long ∙ ap (λ n. w * n) c.requires.planes in
    let end : part.right ≡ part.left + length c.row_part.result.now = omega arith in
    let to = λ (xs : List ℕ) (row : ℕ) (row_part : IsRowPart xs L row part.left part.right).
    subst (λ (n : ℕ). IsRowPart xs L row part.left n) end row_part in
    record {
      far_up = to _ _ (of_row _ L rows part.left part.right _ (pos r -ℤ pos by) c.row_of.ensures (omega (arith, ints)));
      up = to _ _ (of_row _ L rows part.left part.right _ (pos r -ℤ pos 1) c.row_of-2.ensures (omega (arith, ints)));
      here = to _ _ c.row_part.ensures;
      down = to _ _ (of_row _ L rows part.left part.right _ (pos (r + 1)) c.row_of-3.ensures (omega (arith, ints)));
      far_down = to _ _ (of_row _ L rows part.left part.right _ (pos (r + by)) c.row_of-4.ensures
          (omega (arith, ints)));
    }
