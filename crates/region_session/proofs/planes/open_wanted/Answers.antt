use Rattle.std.proofs.Common.{◌≡◌, ℕ, ◌<◌, List, length, sym, ◌∙◌, ap, subst, arith}
use Rattle.std.specs.List.{All}
use Rattle.std.proofs.lemmas.Result.{IfOk-weaker}
use Rattle.plane_view.specs.declared.Rect.{Rect}
use Rattle.plane_view.specs.declared.Shape.{Shape}
use Rattle.stage_core.specs.Planes.{IsPart}
use Rattle.stage_core.specs.Bases.{MakeUp}
use Rattle.stage_deps.specs.Cells.{cells_at, meeting}
use Rattle.stage_deps.specs.Grids.{grid_cells}
use Rattle.stage_deps.proofs.Coverage.{meeting_bounds}
use Rattle.stage_deps.proofs.GridCells.{grid_makes_up}
use Rattle.kept_cells.specs.Held.{Held, fresh, missing}
use Rattle.kept_cells.proofs.Lower.{missing_bounds}
use Rattle.region_session.specs.inner.Parts.{HasCells, HasWanted, HaveSizes}
use Rattle.region_session.proofs.Copying.{sizes_of}
use Rattle.region_session.proofs.Covering.{cells_are_parts, needed_are_parts}
use Rattle.region_session.proofs.Sizes.{small_part}
use Rattle.region_session.proofs.planes.open_wanted.Goals as goal

pub rects_of-requires : goal.rects_of-requires
rects_of-requires g c =
    let cells : List Rect = grid_cells c.args.grid.now.shape c.args.grid.now.side in
    subst (λ (xs : List ℕ). All (λ k. k < length cells) xs) (sym (c.deref.ensures.value ∙ c.in_ok-meeting.ensures))
    (meeting_bounds cells c.args.wanted.now)

pub reset-requires : goal.reset-requires
reset-requires g c =
    let grid = c.args.grid.now in
    let cells : List Rect = grid_cells grid.shape grid.side in
    let wanted = c.args.wanted.now in
    let up : MakeUp cells grid.shape = grid_makes_up grid.shape grid.side (omega (arith, grid.least)) in
    let numbers : c.deref.result.now ≡ meeting cells wanted = c.deref.ensures.value ∙ c.in_ok-meeting.ensures in
    let rects : c.deref-2.result.now ≡ cells_at cells (meeting cells wanted) = c.deref-2.ensures.value
    ∙ c.in_ok-rects_of.ensures ∙ ap (cells_at cells) numbers in
    small_part c.hull-around.result grid.shape grid.limits
    (c.hull-around.ensures.part grid.shape (subst (λ (xs : List Rect). All (λ (rect : Rect). IsPart rect grid.shape) xs)
    (sym rects) (needed_are_parts grid.shape cells wanted up)))

pub copy_fresh-requires-clause-sizes : goal.copy_fresh-requires-clause-sizes
copy_fresh-requires-clause-sizes g c =
    let grid = c.args.grid.now in
    let cells : List Rect = grid_cells grid.shape grid.side in
    let wanted = c.args.wanted.now in
    let held : Held = g.C.Cache.held c.args.cache.now in
    let numbers : c.deref.result.now ≡ meeting cells wanted = c.deref.ensures.value ∙ c.in_ok-meeting.ensures in
    let again : c.deref-3.result.now ≡ c.deref.result.now = c.deref-3.ensures.value ∙ sym c.deref.ensures.value in
    let rects : c.deref-4.result.now ≡ cells_at cells c.deref-3.result.now = c.deref-4.ensures.value
    ∙ c.in_ok-rects_of.ensures ∙ ap (cells_at cells) (sym again) in
    let below : All (λ k. k < length cells) c.deref-3.result.now =
    subst (λ (xs : List ℕ). All (λ k. k < length cells) xs) (sym (again ∙ numbers)) (meeting_bounds cells wanted) in
    subst (λ (n : ℕ). HaveSizes held c.args.plane n c.deref-3.result.now c.deref-4.result.now)
    (sym c.in_ok-reset.ensures.planes)
    (sizes_of held c.args.plane grid.shape.planes cells c.deref-3.result.now c.deref-4.result.now c.requires.sizes rects
    below)

pub rects_of-requires-2 : goal.rects_of-requires-2
rects_of-requires-2 g c =
    let cells : List Rect = grid_cells c.args.grid.now.shape c.args.grid.now.side in
    let wanted = c.args.wanted.now in
    let held : Held = g.C.Cache.held c.args.cache.now in
    let numbers : c.deref-3.result.now ≡ meeting cells wanted = c.deref-3.ensures.value ∙ c.in_ok-meeting.ensures in
    let gone : c.deref-5.result.now ≡ missing held c.args.plane (meeting cells wanted) = c.deref-5.ensures.value
    ∙ c.in_ok-copy_fresh.ensures.missing ∙ ap (missing held c.args.plane) numbers in
    subst (λ (xs : List ℕ). All (λ k. k < length cells) xs) (sym gone) (missing_bounds held c.args.plane cells wanted)

pub needs_of-requires-clause-rects : goal.needs_of-requires-clause-rects
needs_of-requires-clause-rects g c =
    let grid = c.args.grid.now in
    let cells : List Rect = grid_cells grid.shape grid.side in
    let wanted = c.args.wanted.now in
    let held : Held = g.C.Cache.held c.args.cache.now in
    let up : MakeUp cells grid.shape = grid_makes_up grid.shape grid.side (omega (arith, grid.least)) in
    let numbers : c.deref-3.result.now ≡ meeting cells wanted = c.deref-3.ensures.value ∙ c.in_ok-meeting.ensures in
    let gone : c.deref-5.result.now ≡ missing held c.args.plane (meeting cells wanted) = c.deref-5.ensures.value
    ∙ c.in_ok-copy_fresh.ensures.missing ∙ ap (missing held c.args.plane) numbers in
    let rects : c.deref-6.result.now ≡ cells_at cells (missing held c.args.plane (meeting cells wanted)) =
    c.deref-6.ensures.value ∙ c.in_ok-rects_of-2.ensures ∙ ap (cells_at cells) gone in
    subst (λ (s : Shape). All (λ (rect : Rect). IsPart rect s) c.deref-6.result.now) c.requires.grid
    (subst (λ (xs : List Rect). All (λ (rect : Rect). IsPart rect grid.shape) xs) (sym rects)
    (cells_are_parts grid.shape cells (missing held c.args.plane (meeting cells wanted)) up
    (missing_bounds held c.args.plane cells wanted)))

pub returns-clause-cells : goal.returns-clause-cells
returns-clause-cells g c =
    let grid = c.args.grid.now in
    let cells : List Rect = grid_cells grid.shape grid.side in
    let wanted = c.args.wanted.now in
    let held : Held = g.C.Cache.held c.args.cache.now in
    let numbers : c.deref.result.now ≡ meeting cells wanted = c.deref.ensures.value ∙ c.in_ok-meeting.ensures in
    let again : c.deref-3.result.now ≡ c.deref.result.now = c.deref-3.ensures.value ∙ sym c.deref.ensures.value in
    let rects : c.deref-4.result.now ≡ cells_at cells c.deref-3.result.now = c.deref-4.ensures.value
    ∙ c.in_ok-rects_of.ensures ∙ ap (cells_at cells) (sym again) in
    let below : All (λ k. k < length cells) c.deref-3.result.now =
    subst (λ (xs : List ℕ). All (λ k. k < length cells) xs) (sym (again ∙ numbers)) (meeting_bounds cells wanted) in
    let has : HasWanted c.window_of-window.result c.reset.new.self.rect wanted =
    subst (λ (x : Rect). HasWanted c.window_of-window.result x wanted) (sym c.in_ok-reset.ensures.rect)
    c.window_of-window.ensures.has in
    IfOk-weaker c.needs_of.result _ _
    (λ _ _ P planes right.
    subst (λ (xs : List ℕ). HasCells P c.copy_fresh.new.patch wanted cells (fresh held c.args.plane xs)) (again
    ∙ numbers)
    (c.in_ok-copy_fresh.ensures.cells P wanted cells has (planes ∙ sym c.in_ok-reset.ensures.planes) rects below right))
    c.needs_of.ensures
