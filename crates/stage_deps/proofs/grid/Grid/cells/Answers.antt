use Rattle.std.proofs.Common.{ℕ, List, [], ◌∷◌, ◌++◌, map, sym, ◌∙◌, ap, arith}
use Rattle.std.specs.List.{range_with_len}
use Rattle.std.proofs.lemmas.List.FromFn.{map-range_with_len_more}
use Rattle.plane_view.specs.declared.Rect.{Rect}
use Rattle.plane_view.specs.Cuts.{part}
use Rattle.plane_view.proofs.Cuts.{parts_length}
use Rattle.stage_deps.proofs.GridCells.{grid_makes_up}
use Rattle.stage_deps.proofs.grid.Grid.cells.Goals as goal

pub loop-k-preserved : goal.loop-k-preserved
loop-k-preserved c =
    let rect : ℕ → Rect = part c.args.self.now.shape c.args.self.now.side c.args.self.now.side in
    let k : ℕ = c.loop-k.k in
    c.in_ok-push.ensures.items
    ∙ ap (λ (xs : List Rect). xs ++ c.rect.result ∷ []) c.loop-k.invariant
    ∙ ap (λ (x : Rect). map rect (range_with_len 0 k) ++ x ∷ []) c.rect.ensures.rect
    ∙ sym (map-range_with_len_more rect 0 k k (omega arith))

pub returns-clause-plane : goal.returns-clause-plane
returns-clause-plane c = grid_makes_up c.args.self.now.shape c.args.self.now.side (omega (arith, c.args.self.now.least))

pub returns-clause-few : goal.returns-clause-few
returns-clause-few c = omega (
  arith,
  parts_length c.args.self.now.shape c.args.self.now.side c.args.self.now.side,
  c.count-k-end.ensures.count,
  c.count-k-end.ensures.most,
)

pub returns-in_err-push-clause-plane : goal.returns-in_err-push-clause-plane
returns-in_err-push-clause-plane c = grid_makes_up c.args.self.now.shape c.args.self.now.side
    (omega (arith, c.args.self.now.least))

pub returns-in_err-push-clause-few : goal.returns-in_err-push-clause-few
returns-in_err-push-clause-few c = omega (
  arith,
  parts_length c.args.self.now.shape c.args.self.now.side c.args.self.now.side,
  c.count-k-end.ensures.count,
  c.count-k-end.ensures.most,
)
