use Rattle.std.proofs.Common.{◌≡◌, ℕ, ◌<◌, ◌++◌, List, length, false, sym, ◌∙◌, ap, subst}
use Rattle.std.specs.List.{All}
use Rattle.std.specs.List.Sorted.{IsStrictlyIncreasing}
use Rattle.plane_view.specs.declared.Rect.{Rect}
use Rattle.plane_view.specs.declared.Shape.{Shape}
use Rattle.plane_view.specs.Plane.{Plane}
use Rattle.plane_view.specs.Rectangles.{LiesIn}
use Rattle.plane_view.specs.Lent.{Lent}
use Rattle.stage_core.specs.Bases.{AreCells}
use Rattle.stage_core.specs.Planes.{IsPart}
use Rattle.stage_core.proofs.Formulas.{shape_is}
use Rattle.stage_deps.specs.Cells.{cell_at, cells_at, meeting}
use Rattle.stage_deps.proofs.Coverage.{meeting_bounds}
use Rattle.kept_cells.specs.Held.{Held, fresh, missing}
use Rattle.kept_cells.proofs.Keeping.{absent_later, missing_rises}
use Rattle.kept_cells.proofs.Lower.{missing_bounds, sizes_from}
use Rattle.region_session.specs.inner.Parts.{HasCells, HasWanted}
use Rattle.region_session.proofs.Copying.{filled_from, missing_told, sizes_of}
use Rattle.region_session.proofs.Covering.{needed_are_parts, shows_wanted}
use Rattle.region_session.proofs.Sizes.{small_part}
use Rattle.region_session.proofs.planes.fetch_wanted.Goals as goal

-- the numbers and the rectangles that were found are those of the base's cells
numbers_are : (cells own lent wanted : List Rect) (found now : List ℕ) → own ≡ cells → lent ≡ own
    → found ≡ meeting lent wanted → now ≡ found → now ≡ meeting cells wanted
numbers_are cells own lent wanted found now same has is again = again ∙ is
    ∙ ap (λ (xs : List Rect). meeting xs wanted) (has ∙ same)

rects_are : (cells own lent found now : List Rect) (numbers : List ℕ) → own ≡ cells → lent ≡ own
    → found ≡ cells_at lent numbers → now ≡ found → now ≡ cells_at cells numbers
rects_are cells own lent found now numbers same has is again = again ∙ is
    ∙ ap (λ (xs : List Rect). cells_at xs numbers) (has ∙ same)

pub rects_of-requires : goal.rects_of-requires
rects_of-requires g c =
    let cells : List Rect = g.B.Base.cells_of c.args.source.now.base in
    let wanted : List Rect = c.args.wanted.now in
    let numbers = numbers_are cells c.args.source.now.cells.items c.deref.result.now wanted
    c.meeting_cells.new.numbers.items c.deref-3.result.now c.requires.cells c.deref.ensures.value
    c.in_ok-meeting_cells.ensures c.deref-3.ensures.value in
    subst (λ (xs : List Rect). All (λ k. k < length xs) c.deref-3.result.now)
    (sym (c.deref-2.ensures.value ∙ c.requires.cells))
    (subst (λ (ns : List ℕ). All (λ k. k < length cells) ns) (sym numbers) (meeting_bounds cells wanted))

pub reset-requires : goal.reset-requires
reset-requires g c =
    let shape : Shape = c.shape-shape.result in
    let cells : List Rect = g.B.Base.cells_of c.args.source.now.base in
    let wanted : List Rect = c.args.wanted.now in
    let numbers = numbers_are cells c.args.source.now.cells.items c.deref.result.now wanted
    c.meeting_cells.new.numbers.items c.deref-3.result.now c.requires.cells c.deref.ensures.value
    c.in_ok-meeting_cells.ensures c.deref-3.ensures.value in
    let rects : c.deref-4.result.now ≡ cells_at cells (meeting cells wanted) =
    rects_are cells c.args.source.now.cells.items c.deref-2.result.now c.rects_of.new.rects.items
    c.deref-4.result.now c.deref-3.result.now c.requires.cells c.deref-2.ensures.value c.in_ok-rects_of.ensures
    c.deref-4.ensures.value ∙ ap (cells_at cells) numbers in
    small_part c.hull-around.result shape c.shape-shape.ensures.shape
    (c.hull-around.ensures.part shape (subst (λ (xs : List Rect). All (λ (rect : Rect). IsPart rect shape) xs)
    (sym rects) (needed_are_parts shape cells wanted c.shape-shape.ensures.cells.plane)))

pub copy_fresh-requires-clause-sizes : goal.copy_fresh-requires-clause-sizes
copy_fresh-requires-clause-sizes g c =
    let P : Plane = g.B.Base.plane c.args.source.now.base in
    let cells : List Rect = g.B.Base.cells_of c.args.source.now.base in
    let wanted : List Rect = c.args.wanted.now in
    let held : Held = g.C.Cache.held c.args.cache.now in
    let numbers = numbers_are cells c.args.source.now.cells.items c.deref.result.now wanted
    c.meeting_cells.new.numbers.items c.deref-5.result.now c.requires.cells c.deref.ensures.value
    c.in_ok-meeting_cells.ensures c.deref-5.ensures.value in
    let again : c.deref-3.result.now ≡ c.deref-5.result.now = c.deref-3.ensures.value ∙ sym c.deref-5.ensures.value in
    let rects : c.deref-6.result.now ≡ cells_at cells c.deref-5.result.now =
    rects_are cells c.args.source.now.cells.items c.deref-2.result.now c.rects_of.new.rects.items
    c.deref-6.result.now c.deref-3.result.now c.requires.cells c.deref-2.ensures.value c.in_ok-rects_of.ensures
    c.deref-6.ensures.value ∙ ap (cells_at cells) again in
    let below : All (λ k. k < length cells) c.deref-5.result.now =
    subst (λ (xs : List ℕ). All (λ k. k < length cells) xs) (sym numbers) (meeting_bounds cells wanted) in
    sizes_of held 0 c.reset.new.self.planes cells c.deref-5.result.now c.deref-6.result.now
    (sizes_from held 0 P c.reset.new.self.planes cells (c.shape-shape.ensures.plane.shape.planes
    ∙ sym c.in_ok-reset.ensures.planes) c.requires.right) rects below

pub fetch_missing-requires-clause-own : goal.fetch_missing-requires-clause-own
fetch_missing-requires-clause-own g c =
    let P : Plane = g.B.Base.plane c.args.source.now.base in
    subst (λ (s : Shape). AreCells (g.B.Base.cells_of c.args.source.now.base) s)
    (sym (shape_is P c.shape-shape.result c.shape-shape.ensures.plane)) c.shape-shape.ensures.cells

pub fetch_missing-requires-clause-numbers : goal.fetch_missing-requires-clause-numbers
fetch_missing-requires-clause-numbers g c =
    let cells : List Rect = g.B.Base.cells_of c.args.source.now.base in
    let wanted : List Rect = c.args.wanted.now in
    let held : Held = g.C.Cache.held c.args.cache.now in
    let numbers = numbers_are cells c.args.source.now.cells.items c.deref.result.now wanted
    c.meeting_cells.new.numbers.items c.deref-5.result.now c.requires.cells c.deref.ensures.value
    c.in_ok-meeting_cells.ensures c.deref-5.ensures.value in
    let gone : c.deref-8.result.now ≡ missing held 0 (meeting cells wanted) = c.deref-8.ensures.value
    ∙ c.in_ok-copy_fresh.ensures.missing ∙ ap (missing held 0) numbers in
    subst (λ (xs : List ℕ). All (λ k. k < length cells) xs) (sym gone) (missing_bounds held 0 cells wanted)

pub fetch_missing-requires-clause-inside : goal.fetch_missing-requires-clause-inside
fetch_missing-requires-clause-inside g c =
    let cells : List Rect = g.B.Base.cells_of c.args.source.now.base in
    let wanted : List Rect = c.args.wanted.now in
    let held : Held = g.C.Cache.held c.args.cache.now in
    let numbers = numbers_are cells c.args.source.now.cells.items c.deref.result.now wanted
    c.meeting_cells.new.numbers.items c.deref-5.result.now c.requires.cells c.deref.ensures.value
    c.in_ok-meeting_cells.ensures c.deref-5.ensures.value in
    let again : c.deref-3.result.now ≡ c.deref-5.result.now = c.deref-3.ensures.value ∙ sym c.deref-5.ensures.value in
    let rects : c.deref-4.result.now ≡ cells_at cells (meeting cells wanted) =
    rects_are cells c.args.source.now.cells.items c.deref-2.result.now c.rects_of.new.rects.items
    c.deref-4.result.now c.deref-3.result.now c.requires.cells c.deref-2.ensures.value c.in_ok-rects_of.ensures
    c.deref-4.ensures.value ∙ ap (cells_at cells) (again ∙ numbers) in
    let gone : c.deref-8.result.now ≡ missing held 0 (meeting cells wanted) = c.deref-8.ensures.value
    ∙ c.in_ok-copy_fresh.ensures.missing ∙ ap (missing held 0) numbers in
    let whole : Rect = c.copy_fresh.new.patch.rect in
    let is : c.hull-around.result ≡ whole = sym (c.copy_fresh.ensures.rect ∙ c.in_ok-reset.ensures.rect) in
    let lie : All (λ (rect : Rect). LiesIn rect whole) (cells_at cells (meeting cells wanted)) =
    subst (λ (x : Rect). All (λ (rect : Rect). LiesIn rect x) (cells_at cells (meeting cells wanted))) is
    (subst (λ (xs : List Rect). All (λ (rect : Rect). LiesIn rect c.hull-around.result) xs) rects
    c.hull-around.ensures.all) in
    subst (λ (xs : List ℕ). All (λ k. LiesIn (cell_at cells k) whole) xs) (sym gone)
    (missing_told (λ x. LiesIn x whole) cells held 0 (meeting cells wanted) lie)

pub fetch_missing-requires-clause-rising : goal.fetch_missing-requires-clause-rising
fetch_missing-requires-clause-rising g c =
    let cells : List Rect = g.B.Base.cells_of c.args.source.now.base in
    let wanted : List Rect = c.args.wanted.now in
    let held : Held = g.C.Cache.held c.args.cache.now in
    let numbers = numbers_are cells c.args.source.now.cells.items c.deref.result.now wanted
    c.meeting_cells.new.numbers.items c.deref-5.result.now c.requires.cells c.deref.ensures.value
    c.in_ok-meeting_cells.ensures c.deref-5.ensures.value in
    let gone : c.deref-8.result.now ≡ missing held 0 (meeting cells wanted) = c.deref-8.ensures.value
    ∙ c.in_ok-copy_fresh.ensures.missing ∙ ap (missing held 0) numbers in
    subst IsStrictlyIncreasing (sym gone) (missing_rises held 0 cells wanted)

pub fetch_missing-requires-clause-absent : goal.fetch_missing-requires-clause-absent
fetch_missing-requires-clause-absent g c =
    let cells : List Rect = g.B.Base.cells_of c.args.source.now.base in
    let wanted : List Rect = c.args.wanted.now in
    let held : Held = g.C.Cache.held c.args.cache.now in
    let opened : Held = g.C.Cache.held c.copy_fresh.new.cache in
    let numbers = numbers_are cells c.args.source.now.cells.items c.deref.result.now wanted
    c.meeting_cells.new.numbers.items c.deref-5.result.now c.requires.cells c.deref.ensures.value
    c.in_ok-meeting_cells.ensures c.deref-5.ensures.value in
    let gone : c.deref-8.result.now ≡ missing held 0 (meeting cells wanted) = c.deref-8.ensures.value
    ∙ c.in_ok-copy_fresh.ensures.missing ∙ ap (missing held 0) numbers in
    subst (λ (xs : List ℕ). All (λ k. opened.holds 0 k ≡ false) xs) (sym gone)
    (absent_later held opened 0 (meeting cells wanted) (λ k now. sym (c.copy_fresh.ensures.held.holds 0 k) ∙ now))

pub returns-clause-shows : goal.returns-clause-shows
returns-clause-shows g c =
    let P : Plane = g.B.Base.plane c.args.source.now.base in
    let shape : Shape = c.shape-shape.result in
    let cells : List Rect = g.B.Base.cells_of c.args.source.now.base in
    let wanted : List Rect = c.args.wanted.now in
    let held : Held = g.C.Cache.held c.args.cache.now in
    let patch : Lent = c.fetch_missing.new.patch in
    let numbers = numbers_are cells c.args.source.now.cells.items c.deref.result.now wanted
    c.meeting_cells.new.numbers.items c.deref-5.result.now c.requires.cells c.deref.ensures.value
    c.in_ok-meeting_cells.ensures c.deref-5.ensures.value in
    let again : c.deref-3.result.now ≡ c.deref-5.result.now = c.deref-3.ensures.value ∙ sym c.deref-5.ensures.value in
    let here : c.deref-6.result.now ≡ cells_at cells c.deref-5.result.now =
    rects_are cells c.args.source.now.cells.items c.deref-2.result.now c.rects_of.new.rects.items
    c.deref-6.result.now c.deref-3.result.now c.requires.cells c.deref-2.ensures.value c.in_ok-rects_of.ensures
    c.deref-6.ensures.value ∙ ap (cells_at cells) again in
    let rects : c.deref-4.result.now ≡ cells_at cells (meeting cells wanted) =
    rects_are cells c.args.source.now.cells.items c.deref-2.result.now c.rects_of.new.rects.items
    c.deref-4.result.now c.deref-3.result.now c.requires.cells c.deref-2.ensures.value c.in_ok-rects_of.ensures
    c.deref-4.ensures.value ∙ ap (cells_at cells) (again ∙ numbers) in
    let gone : c.deref-8.result.now ≡ missing held 0 (meeting cells wanted) = c.deref-8.ensures.value
    ∙ c.in_ok-copy_fresh.ensures.missing ∙ ap (missing held 0) numbers in
    let below : All (λ k. k < length cells) c.deref-5.result.now =
    subst (λ (xs : List ℕ). All (λ k. k < length cells) xs) (sym numbers) (meeting_bounds cells wanted) in
    let has : HasWanted c.window_of-window.result c.reset.new.self.rect wanted =
    subst (λ (x : Rect). HasWanted c.window_of-window.result x wanted) (sym c.in_ok-reset.ensures.rect)
    c.window_of-window.ensures.has in
    let had : HasCells P c.copy_fresh.new.patch wanted cells (fresh held 0 (meeting cells wanted)) =
    subst (λ (xs : List ℕ). HasCells P c.copy_fresh.new.patch wanted cells (fresh held 0 xs)) numbers
    (c.in_ok-copy_fresh.ensures.cells P wanted cells has (c.shape-shape.ensures.plane.shape.planes
    ∙ sym c.in_ok-reset.ensures.planes) here below c.requires.right) in
    let all : HasCells P patch wanted cells (fresh held 0 (meeting cells wanted)
    ++ missing held 0 (meeting cells wanted)) =
    subst (λ (xs : List ℕ). HasCells P patch wanted cells (fresh held 0 (meeting cells wanted) ++ xs)) gone
    (c.in_ok-fetch_missing.ensures.copied wanted (fresh held 0 (meeting cells wanted)) had) in
    let is : c.hull-around.result ≡ patch.rect = sym (c.fetch_missing.ensures.rect ∙ c.copy_fresh.ensures.rect
    ∙ c.in_ok-reset.ensures.rect) in
    let lie : All (λ (rect : Rect). LiesIn rect patch.rect) (cells_at cells (meeting cells wanted)) =
    subst (λ (x : Rect). All (λ (rect : Rect). LiesIn rect x) (cells_at cells (meeting cells wanted))) is
    (subst (λ (xs : List Rect). All (λ (rect : Rect). LiesIn rect c.hull-around.result) xs) rects
    c.hull-around.ensures.all) in
    shows_wanted P patch shape cells wanted c.shape-shape.ensures.cells.plane
    (subst (λ (s : Shape). All (λ (rect : Rect). IsPart rect s) wanted) (shape_is P shape c.shape-shape.ensures.plane)
    c.requires.wanted)
    lie (filled_from P patch wanted cells held 0 (meeting cells wanted) all)
