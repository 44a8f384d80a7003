use Rattle.std.proofs.Common.{◌≡◌, ℕ, get_or, List, sym, ◌∙◌, arith}
use Rattle.std.proofs.lemmas.Option.{get_or_from_slice_get}
use Rattle.plane_view.specs.declared.Rect.{Rect}
use Rattle.stage_deps.specs.Cells.{cell_at, no_rect}
use Rattle.stage_deps.specs.Grids.{grid_cells}
use Rattle.stage_deps.proofs.Coverage.{cells_more}
use Rattle.plane_view.proofs.Cuts.{parts_length}
use Rattle.stage_deps.proofs.grid.Grid.rects_of.Goals as goal

pub rect-requires : goal.rect-requires
rect-requires c = omega (
  arith,
  c.requires c.loop-k.k-index 0 (omega arith),
  parts_length c.args.self.now.shape c.args.self.now.side c.args.self.now.side,
)

pub loop-k-preserved : goal.loop-k-preserved
loop-k-preserved c =
    let cells : List Rect = grid_cells c.args.self.now.shape c.args.self.now.side in
    let numbers : List ℕ = c.args.numbers.now in
    let i : ℕ = c.loop-k.k-index in
    let is : c.rect.result ≡ cell_at cells (get_or numbers i 0) =
    sym (get_or_from_slice_get cells (get_or numbers i 0) c.rect.result no_rect c.rect.ensures.cell) in
    c.in_ok-push.ensures.items ∙ cells_more cells numbers i c.loop-k.rects.items c.rect.result (omega arith)
    c.loop-k.invariant is
