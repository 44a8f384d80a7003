use Rattle.std.proofs.Common.{ℕ, ◌+◌, ◌++◌, drop, List, sym, ◌∙◌, ap, arith}
use Rattle.plane_view.specs.declared.Rect.{Rect}
use Rattle.stage_deps.specs.Cells.{meeting_from}
use Rattle.stage_deps.specs.Grids.{grid_cells}
use Rattle.stage_deps.proofs.Coverage.{all_seen, meeting_less, meeting_more}
use Rattle.plane_view.proofs.Cuts.{parts_length}
use Rattle.stage_deps.proofs.grid.Grid.meeting.Goals.{then-meets_within+in_ok-push, else-meets_within}
use Rattle.stage_deps.proofs.grid.Grid.meeting.Goals as goal

pub loop-k-preserved : goal.loop-k-preserved
loop-k-preserved c =
    let cells : List Rect = grid_cells c.args.self.now.shape c.args.self.now.side in
    let rects : List Rect = c.args.rects.now in
    let k : ℕ = c.loop-k.k in
    let rest : List ℕ = meeting_from rects (k + 1) (drop (k + 1) cells) in
    elim c.if-meets_within.branch [
      | then-meets_within+in_ok-push w ↦
          ap (λ v. v.items ++ rest) w.numbers-is
          ∙ ap (λ (xs : List ℕ). xs ++ rest) w.in_ok-push.ensures.items
          ∙ meeting_more rects cells c.loop-k.numbers.items k c.rect.result c.rect.ensures.cell
          (sym c.meets_within.ensures ∙ w.if-meets_within.true)
          ∙ c.loop-k.invariant
      | else-meets_within w ↦
          ap (λ v. v.items ++ rest) w.numbers-is
          ∙ meeting_less rects cells c.loop-k.numbers.items k c.rect.result c.rect.ensures.cell
          (sym c.meets_within.ensures ∙ w.if-meets_within.false)
          ∙ c.loop-k.invariant
    ]

pub returns : goal.returns
returns c =
    let grid = c.args.self.now in
    all_seen (grid_cells grid.shape grid.side) c.args.rects.now c.loop-k.k c.loop-k.numbers.items c.loop-k.invariant
    (omega (arith, parts_length grid.shape grid.side grid.side, c.count-k-end.ensures.count))
