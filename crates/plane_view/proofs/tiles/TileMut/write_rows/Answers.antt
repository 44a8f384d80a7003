use Rattle.std.proofs.Common.{◌≡◌, ℕ, ◌+◌, ◌-◌, ◌*◌, ◌<◌, List, length, get_or, sym, ◌∙◌, ap, subst, arith}
use Rattle.plane_view.specs.declared.Rect.{Rect}
use Rattle.plane_view.specs.declared.tiles.TileMut.{TileMut}
use Rattle.plane_view.specs.Rows.{IsAsLong, IsRowOf}
use Rattle.plane_view.specs.Lent.{HasRow}
use Rattle.plane_view.specs.Tiles.{loan, tile_rect, row_in, SameLoan}
use Rattle.plane_view.proofs.Writes.{length-row_in}
use Rattle.plane_view.proofs.Loans.{same_loan, then_loan, rows_step}
use Rattle.plane_view.proofs.tiles.TileMut.write_rows.Goals as goal

-- a list that is as long as a row of the tile now was so at first
as_long : (first now : TileMut) (xs : List ℕ) → SameLoan first now → IsAsLong (tile_rect now) (loan now).planes xs
    → IsAsLong (tile_rect first) (loan first).planes xs
as_long first now xs same long =
    subst (λ (x : Rect). IsAsLong x (loan first).planes xs) same.rect
    (subst (λ (n : ℕ). IsAsLong (tile_rect now) n xs) same.planes long)

pub loop-r-init : goal.loop-r-init
loop-r-init g c = record {
  same = same_loan c.args.self.now;
  rows = λ f writes r c' p pixel below plane.
      absurd (omega arith);
}

pub write_row-requires-clause-can : goal.write_row-requires-clause-can
write_row-requires-clause-can g c row is long =
    let first : TileMut = c.args.self.now in
    let same = c.loop-r.invariant.same in
    let below = c.loop-r-test.true in
    let above = c.loop-r.auto.r-counter in
    let order = c.requires.order in
    λ y is_row.
    c.requires.can c.loop-r.r-counter y (record { top = omega arith; bottom = omega arith; cols = omega arith })
    (as_long first c.loop-r.self y.now same (ap length is_row ∙ long))

pub loop-r-preserved : goal.loop-r-preserved
loop-r-preserved g c =
    let first : TileMut = c.args.self.now in
    let old : TileMut = c.loop-r.self in
    let new : TileMut = c.write_row.new.self in
    let r : ℕ = c.loop-r.r-counter in
    let begun = c.loop-r.invariant.same in
    let same = c.write_row.ensures.loan in
    let closure = c.write_row.ensures.row in
    let called = closure.met in
    let shows : called.0.now ≡ row_in (loan old) (tile_rect old) r = called.3 ∙ closure.shows in
    let leaves : called.1.now ≡ row_in (loan new) (tile_rect new) r = called.4 ∙ closure.leaves in
    let below = c.loop-r-test.true in
    let above = c.loop-r.auto.r-counter in
    let order = c.requires.order in
    let at_first : HasRow (tile_rect first) r = record { top = omega arith; bottom = omega arith; cols = omega arith }
    in
    let at_old : HasRow (tile_rect old) r = subst (λ (x : Rect). HasRow x r) (sym begun.rect) at_first in
    let at_new : HasRow (tile_rect new) r = subst (λ (x : Rect). HasRow x r) (sym same.rect) at_old in
    let long_old = as_long first old called.0.now begun (ap length shows
    ∙ length-row_in (loan old) (tile_rect old) r old.long old.inside at_old) in
    let long_new = as_long first new called.1.now (then_loan first old new begun same) (ap length leaves
    ∙ length-row_in (loan new) (tile_rect new) r new.long new.inside at_new) in
    record {
      same = then_loan first old new begun same;
      rows = λ f writes.
          let row : IsRowOf f (tile_rect first) (loan first).planes r called.1.now =
          writes r called.0 called.1 at_first long_old long_new called.2 in
          rows_step first old new r f begun same c.write_row.ensures.others
          (λ c' p pixel plane.
          ap (λ (x : Rect). get_or (row_in (loan new) x r) ((c' - (tile_rect first).left) * (loan first).planes + p) 0)
          (sym same.rect)
          ∙ ap (λ (xs : List ℕ). get_or xs ((c' - (tile_rect first).left) * (loan first).planes + p) 0) (sym leaves)
          ∙ row.samples c' p pixel plane)
          (c.loop-r.invariant.rows f writes);
    }

pub returns-clause-rows : goal.returns-clause-rows
returns-clause-rows g c f writes =
    let same = c.loop-r.invariant.same in
    let all = c.loop-r-test.false in
    record {
      samples = λ r c' p pixel plane.
          c.loop-r.invariant.rows f writes r c' p pixel (omega arith) (subst (λ (n : ℕ). p < n) same.planes plane);
    }
