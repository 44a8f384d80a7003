use Rattle.std.proofs.Common.{rules, ◌≡◌, ℕ, ◌+◌, ◌<◌, ◌≤◌, List, [], ◌++◌, length, false, sym, ◌∙◌, ap}
use Rattle.std.proofs.Common.{subst, arith}
use Rattle.std.specs.List.{All}
use Rattle.std.specs.List.Sorted.{IsStrictlyIncreasing}
use Rattle.std.proofs.lemmas.Bool.{eqb-true}
use Rattle.std.proofs.lemmas.List.{append-nil}
use Rattle.std.proofs.lemmas.List.Elements.{All-map, All-weaker}
use Rattle.plane_view.specs.declared.Rect.{Rect}
use Rattle.plane_view.specs.declared.Shape.{Shape}
use Rattle.plane_view.specs.Plane.{Plane}
use Rattle.plane_view.specs.Rectangles.{LiesIn}
use Rattle.plane_view.specs.Shapes.{IsShape}
use Rattle.plane_view.specs.Lent.{AgreesWith, Lent}
use Rattle.stage_core.specs.Bases.{raised}
use Rattle.stage_core.specs.Planes.{IsPart, IsPlane}
use Rattle.stage_core.specs.Stages.{shape_of}
use Rattle.stage_chain.specs.Chains.{whole_of}
use Rattle.stage_deps.specs.declared.grid.Grid.{Grid}
use Rattle.stage_deps.specs.Cells.{cell_at, cells_at, meeting}
use Rattle.stage_deps.specs.Grids.{grid_cells}
use Rattle.stage_deps.proofs.GridCells.{grid_makes_up}
use Rattle.kept_cells.specs.Held.{Held, fresh, missing}
use Rattle.kept_cells.specs.Kept.{Kept, Marks, put_each, size_of}
use Rattle.kept_cells.specs.Missing.{needs_of}
use Rattle.kept_cells.specs.Tiers.{Tier, tiers_of}
use Rattle.kept_cells.proofs.Keeping.{absent_later, missing_rises}
use Rattle.kept_cells.proofs.Lower.{missing_bounds, right_same, rights_same, takes_lower, takes_run}
use Rattle.region_session.specs.declared.layers.Layer.{Layer}
use Rattle.region_session.specs.inner.Parts.{HasCells, Shows}
use Rattle.region_session.specs.Stacks.{last_shape}
use Rattle.region_session.proofs.Copying.{filled_from, missing_told}
use Rattle.stage_core.proofs.Counting.{raised_none}
use Rattle.region_session.proofs.Covering.{cells_are_parts, shows_wanted}
use Rattle.region_session.proofs.NoneMissing.{kept_fresh, no_fetches, no_runs, none_of}
use Rattle.region_session.proofs.OverLower.{fetches_below, kept_below, needs_agree, needs_lie, rights_above}
use Rattle.region_session.proofs.OverLower.{rights_below, runs_below}
use Rattle.region_session.proofs.Tiering.{held_on_top, on_top, tier_on}
use Rattle.region_session.proofs.Top.{as_many, top_of}
use Rattle.region_session.proofs.bands.+make.Goals as goal

pub unreachable-requires-in_default-split_last-2 : goal.unreachable-requires-in_default-split_last-2
unreachable-requires-in_default-split_last-2 g t c =
    let P : Plane = g.B.Base.plane c.args.source.now.base in
    omega (
      arith,
      as_many g.S.Stage.takes g.S.Stage.shaped (shape_of P) c.args.stages.now c.args.layers.now
          c.requires.layers,
      c.in_default-split_last-2.ensures.cases,
      c.in-Some-split_last.ensures.cases.1,
    )

pub new-grid-requires-clause-shape : goal.new-grid-requires-clause-shape
new-grid-requires-clause-shape g t c =
    let P : Plane = g.B.Base.plane c.args.source.now.base in
    let input : Shape = shape_of P in
    let top = top_of g.S.Stage.takes g.S.Stage.shaped input c.args.stages.now c.in-Some-split_last.below.now
    c.in-Some-split_last.stage.now c.args.layers.now c.in-Some-split_last-2.lower_layers.now
    c.in-Some-split_last-2.layer.now c.in-Some-split_last.ensures.cases.0 c.in-Some-split_last-2.ensures.cases.0
    c.requires.layers in
    subst IsShape (sym top.is.shape) (g.met.S.Stage.makes_shapes c.in-Some-split_last.stage.now
    c.in-Some-split_last-2.layer.now.input top.is.input top.is.taken)

pub open_wanted-requires-clause-shape : goal.open_wanted-requires-clause-shape
open_wanted-requires-clause-shape g t c =
    let P : Plane = g.B.Base.plane c.args.source.now.base in
    let top = on_top g.S.Stage.takes g.S.Stage.shaped g.S.Stage.apply g.met.S.Stage.makes_shapes
    g.met.S.Stage.makes_planes P c.shape-shape.result c.shape-shape.ensures.shape c.shape-shape.ensures.plane
    c.args.side c.args.stages.now c.in-Some-split_last.below.now c.in-Some-split_last.stage.now c.args.layers.now
    c.in-Some-split_last-2.lower_layers.now c.in-Some-split_last-2.layer.now c.new-grid.result
    c.in-Some-split_last.ensures.cases.0 (omega (arith, c.in-Some-split_last.ensures.cases.1))
    c.in-Some-split_last-2.ensures.cases.0 c.requires.layers c.new-grid.ensures.shape c.new-grid.ensures.side in
    top.input

pub open_wanted-requires-clause-takes : goal.open_wanted-requires-clause-takes
open_wanted-requires-clause-takes g t c =
    let P : Plane = g.B.Base.plane c.args.source.now.base in
    let top = on_top g.S.Stage.takes g.S.Stage.shaped g.S.Stage.apply g.met.S.Stage.makes_shapes
    g.met.S.Stage.makes_planes P c.shape-shape.result c.shape-shape.ensures.shape c.shape-shape.ensures.plane
    c.args.side c.args.stages.now c.in-Some-split_last.below.now c.in-Some-split_last.stage.now c.args.layers.now
    c.in-Some-split_last-2.lower_layers.now c.in-Some-split_last-2.layer.now c.new-grid.result
    c.in-Some-split_last.ensures.cases.0 (omega (arith, c.in-Some-split_last.ensures.cases.1))
    c.in-Some-split_last-2.ensures.cases.0 c.requires.layers c.new-grid.ensures.shape c.new-grid.ensures.side in
    top.taken

pub open_wanted-requires-clause-grid : goal.open_wanted-requires-clause-grid
open_wanted-requires-clause-grid g t c =
    let P : Plane = g.B.Base.plane c.args.source.now.base in
    let top = on_top g.S.Stage.takes g.S.Stage.shaped g.S.Stage.apply g.met.S.Stage.makes_shapes
    g.met.S.Stage.makes_planes P c.shape-shape.result c.shape-shape.ensures.shape c.shape-shape.ensures.plane
    c.args.side c.args.stages.now c.in-Some-split_last.below.now c.in-Some-split_last.stage.now c.args.layers.now
    c.in-Some-split_last-2.lower_layers.now c.in-Some-split_last-2.layer.now c.new-grid.result
    c.in-Some-split_last.ensures.cases.0 (omega (arith, c.in-Some-split_last.ensures.cases.1))
    c.in-Some-split_last-2.ensures.cases.0 c.requires.layers c.new-grid.ensures.shape c.new-grid.ensures.side in
    top.grid

pub open_wanted-requires-clause-sizes : goal.open_wanted-requires-clause-sizes
open_wanted-requires-clause-sizes g t c =
    let P : Plane = g.B.Base.plane c.args.source.now.base in
    let input : Shape = shape_of P in
    let top = on_top g.S.Stage.takes g.S.Stage.shaped g.S.Stage.apply g.met.S.Stage.makes_shapes
    g.met.S.Stage.makes_planes P c.shape-shape.result c.shape-shape.ensures.shape c.shape-shape.ensures.plane
    c.args.side c.args.stages.now c.in-Some-split_last.below.now c.in-Some-split_last.stage.now c.args.layers.now
    c.in-Some-split_last-2.lower_layers.now c.in-Some-split_last-2.layer.now c.new-grid.result
    c.in-Some-split_last.ensures.cases.0 (omega (arith, c.in-Some-split_last.ensures.cases.1))
    c.in-Some-split_last-2.ensures.cases.0 c.requires.layers c.new-grid.ensures.shape c.new-grid.ensures.side in
    let held : Held = g.C.Cache.held c.args.cache.now in
    let kept = held_on_top g.S.Stage.takes g.S.Stage.shaped g.S.Stage.apply held input P c.args.side c.args.stages.now
    c.in-Some-split_last.below.now c.in-Some-split_last.stage.now c.in-Some-split_last-2.lower_layers.now
    c.in-Some-split_last-2.layer.now c.new-grid.result top c.requires.right in
    kept.sizes

pub returns-in_err-open_wanted-clause-right : goal.returns-in_err-open_wanted-clause-right
returns-in_err-open_wanted-clause-right g t c =
    let P : Plane = g.B.Base.plane c.args.source.now.base in
    rights_same g.S.Stage.apply (g.C.Cache.held c.args.cache.now) (g.C.Cache.held c.open_wanted.new.cache) P
    (tiers_of g.S.Stage.shaped c.args.side (shape_of P) c.args.stages.now) c.open_wanted.ensures.held
    c.requires.right

pub returns-then-is_empty-clause-right : goal.returns-then-is_empty-clause-right
returns-then-is_empty-clause-right g t c =
    let P : Plane = g.B.Base.plane c.args.source.now.base in
    rights_same g.S.Stage.apply (g.C.Cache.held c.args.cache.now) (g.C.Cache.held c.open_wanted.new.cache) P
    (tiers_of g.S.Stage.shaped c.args.side (shape_of P) c.args.stages.now) c.open_wanted.ensures.held
    c.requires.right

pub returns-then-is_empty-clause-whole : goal.returns-then-is_empty-clause-whole
returns-then-is_empty-clause-whole g t c =
    let P : Plane = g.B.Base.plane c.args.source.now.base in
    let input : Shape = shape_of P in
    let top = on_top g.S.Stage.takes g.S.Stage.shaped g.S.Stage.apply g.met.S.Stage.makes_shapes
    g.met.S.Stage.makes_planes P c.shape-shape.result c.shape-shape.ensures.shape c.shape-shape.ensures.plane
    c.args.side c.args.stages.now c.in-Some-split_last.below.now c.in-Some-split_last.stage.now c.args.layers.now
    c.in-Some-split_last-2.lower_layers.now c.in-Some-split_last-2.layer.now c.new-grid.result
    c.in-Some-split_last.ensures.cases.0 (omega (arith, c.in-Some-split_last.ensures.cases.1))
    c.in-Some-split_last-2.ensures.cases.0 c.requires.layers c.new-grid.ensures.shape c.new-grid.ensures.side in
    subst (λ (X : Plane). IsPlane X (last_shape g.S.Stage.shaped input c.args.stages.now)) (sym top.whole)
    (subst (λ (t : Shape). IsPlane
    (g.S.Stage.apply c.in-Some-split_last.stage.now (whole_of g.S.Stage.apply c.in-Some-split_last.below.now P)) t)
    (sym top.last) top.own)

pub returns-then-is_empty-clause-planes : goal.returns-then-is_empty-clause-planes
returns-then-is_empty-clause-planes g t c =
    let P : Plane = g.B.Base.plane c.args.source.now.base in
    let top = on_top g.S.Stage.takes g.S.Stage.shaped g.S.Stage.apply g.met.S.Stage.makes_shapes
    g.met.S.Stage.makes_planes P c.shape-shape.result c.shape-shape.ensures.shape c.shape-shape.ensures.plane
    c.args.side c.args.stages.now c.in-Some-split_last.below.now c.in-Some-split_last.stage.now c.args.layers.now
    c.in-Some-split_last-2.lower_layers.now c.in-Some-split_last-2.layer.now c.new-grid.result
    c.in-Some-split_last.ensures.cases.0 (omega (arith, c.in-Some-split_last.ensures.cases.1))
    c.in-Some-split_last-2.ensures.cases.0 c.requires.layers c.new-grid.ensures.shape c.new-grid.ensures.side in
    c.in_ok-open_wanted.ensures.planes ∙ ap (λ (t : Shape). t.planes) (sym top.last)

pub returns-then-is_empty-clause-shows : goal.returns-then-is_empty-clause-shows
returns-then-is_empty-clause-shows g t c =
    let apply = g.S.Stage.apply in
    let P : Plane = g.B.Base.plane c.args.source.now.base in
    let input : Shape = shape_of P in
    let all = c.args.stages.now in
    let stage = c.in-Some-split_last.stage.now in
    let below = c.in-Some-split_last.below.now in
    let grid : Grid = c.new-grid.result in
    let top = on_top g.S.Stage.takes g.S.Stage.shaped apply g.met.S.Stage.makes_shapes g.met.S.Stage.makes_planes P
    c.shape-shape.result c.shape-shape.ensures.shape c.shape-shape.ensures.plane c.args.side all below stage
    c.args.layers.now c.in-Some-split_last-2.lower_layers.now c.in-Some-split_last-2.layer.now grid
    c.in-Some-split_last.ensures.cases.0 (omega (arith, c.in-Some-split_last.ensures.cases.1))
    c.in-Some-split_last-2.ensures.cases.0 c.requires.layers c.new-grid.ensures.shape c.new-grid.ensures.side in
    let cells : List Rect = grid_cells grid.shape grid.side in
    let plane : ℕ = length all in
    let held : Held = g.C.Cache.held c.args.cache.now in
    let wanted : List Rect = c.args.wanted.now in
    let kept = held_on_top g.S.Stage.takes g.S.Stage.shaped apply held input P c.args.side all below stage
    c.in-Some-split_last-2.lower_layers.now c.in-Some-split_last-2.layer.now grid top c.requires.right in
    let numbers : List ℕ = meeting cells wanted in
    let gone : List ℕ = missing held plane numbers in
    let none : gone ≡ [] = none_of c.open_wanted.new.own.missing.items gone c.in_ok-open_wanted.ensures.missing
    (omega (arith, eqb-true _ _ (sym c.is_empty.ensures ∙ c.if-is_empty.true), c.open_wanted.new.own.missing.ok)) in
    let parts : All (λ (rect : Rect). IsPart rect grid.shape) wanted =
    subst (λ (t : Shape). All (λ (rect : Rect). IsPart rect t) wanted) top.last c.requires.wanted in
    let up = grid_makes_up grid.shape grid.side (omega (arith, grid.least)) in
    let R : Plane = apply stage (whole_of apply below P) in
    let patch : Lent = c.open_wanted.new.patch in
    let had : HasCells R patch wanted cells (fresh held plane numbers) =
    c.in_ok-open_wanted.ensures.cells R top.own.shape.planes kept.right in
    let more : fresh held plane numbers ++ gone ≡ fresh held plane numbers =
    ap (λ (xs : List ℕ). fresh held plane numbers ++ xs) none ∙ append-nil (fresh held plane numbers) in
    let filled : HasCells R patch wanted cells (fresh held plane numbers ++ gone) =
    subst (λ (xs : List ℕ). HasCells R patch wanted cells xs) (sym more) had in
    subst (λ (X : Plane). All (Shows X patch) wanted) (sym top.whole)
    (shows_wanted R patch grid.shape cells wanted up parts c.in_ok-open_wanted.ensures.lie
    (filled_from R patch wanted cells held plane numbers filled))

pub returns-then-is_empty-clause-work : goal.returns-then-is_empty-clause-work
returns-then-is_empty-clause-work g t c =
    let P : Plane = g.B.Base.plane c.args.source.now.base in
    let top = on_top g.S.Stage.takes g.S.Stage.shaped g.S.Stage.apply g.met.S.Stage.makes_shapes
    g.met.S.Stage.makes_planes P c.shape-shape.result c.shape-shape.ensures.shape c.shape-shape.ensures.plane
    c.args.side c.args.stages.now c.in-Some-split_last.below.now c.in-Some-split_last.stage.now c.args.layers.now
    c.in-Some-split_last-2.lower_layers.now c.in-Some-split_last-2.layer.now c.new-grid.result
    c.in-Some-split_last.ensures.cases.0 (omega (arith, c.in-Some-split_last.ensures.cases.1))
    c.in-Some-split_last-2.ensures.cases.0 c.requires.layers c.new-grid.ensures.shape c.new-grid.ensures.side in
    let held : Held = g.C.Cache.held c.args.cache.now in
    let none : missing held (length c.args.stages.now)
    (meeting (grid_cells c.new-grid.result.shape c.new-grid.result.side) c.args.wanted.now) ≡ [] =
    none_of c.open_wanted.new.own.missing.items _ c.in_ok-open_wanted.ensures.missing
    (omega (arith, eqb-true _ _ (sym c.is_empty.ensures ∙ c.if-is_empty.true), c.open_wanted.new.own.missing.ok)) in
    let base_cells : List Rect = g.B.Base.cells_of c.args.source.now.base in
    let fetches = no_fetches top held g.S.Stage.needed base_cells c.args.wanted.now none in
    let runs = no_runs top held g.S.Stage.needed c.args.wanted.now none in
    omega (arith, fetches, runs)

pub returns-then-is_empty-clause-count : goal.returns-then-is_empty-clause-count
returns-then-is_empty-clause-count g t c =
    let P : Plane = g.B.Base.plane c.args.source.now.base in
    let top = on_top g.S.Stage.takes g.S.Stage.shaped g.S.Stage.apply g.met.S.Stage.makes_shapes
    g.met.S.Stage.makes_planes P c.shape-shape.result c.shape-shape.ensures.shape c.shape-shape.ensures.plane
    c.args.side c.args.stages.now c.in-Some-split_last.below.now c.in-Some-split_last.stage.now c.args.layers.now
    c.in-Some-split_last-2.lower_layers.now c.in-Some-split_last-2.layer.now c.new-grid.result
    c.in-Some-split_last.ensures.cases.0 (omega (arith, c.in-Some-split_last.ensures.cases.1))
    c.in-Some-split_last-2.ensures.cases.0 c.requires.layers c.new-grid.ensures.shape c.new-grid.ensures.side in
    let held : Held = g.C.Cache.held c.args.cache.now in
    let none : missing held (length c.args.stages.now)
    (meeting (grid_cells c.new-grid.result.shape c.new-grid.result.side) c.args.wanted.now) ≡ [] =
    none_of c.open_wanted.new.own.missing.items _ c.in_ok-open_wanted.ensures.missing
    (omega (arith, eqb-true _ _ (sym c.is_empty.ensures ∙ c.if-is_empty.true), c.open_wanted.new.own.missing.ok)) in
    let base_cells : List Rect = g.B.Base.cells_of c.args.source.now.base in
    sym (ap (raised (g.B.Base.fetches c.args.source.now.base))
    (no_fetches top held g.S.Stage.needed base_cells c.args.wanted.now none)
    ∙ raised_none (g.B.Base.fetches c.args.source.now.base) (g.met.B.Base.held c.args.source.now.base))

pub returns-then-is_empty-clause-fetched : goal.returns-then-is_empty-clause-fetched
returns-then-is_empty-clause-fetched g t c =
    let P : Plane = g.B.Base.plane c.args.source.now.base in
    let top = on_top g.S.Stage.takes g.S.Stage.shaped g.S.Stage.apply g.met.S.Stage.makes_shapes
    g.met.S.Stage.makes_planes P c.shape-shape.result c.shape-shape.ensures.shape c.shape-shape.ensures.plane
    c.args.side c.args.stages.now c.in-Some-split_last.below.now c.in-Some-split_last.stage.now c.args.layers.now
    c.in-Some-split_last-2.lower_layers.now c.in-Some-split_last-2.layer.now c.new-grid.result
    c.in-Some-split_last.ensures.cases.0 (omega (arith, c.in-Some-split_last.ensures.cases.1))
    c.in-Some-split_last-2.ensures.cases.0 c.requires.layers c.new-grid.ensures.shape c.new-grid.ensures.side in
    let held : Held = g.C.Cache.held c.args.cache.now in
    let none : missing held (length c.args.stages.now)
    (meeting (grid_cells c.new-grid.result.shape c.new-grid.result.side) c.args.wanted.now) ≡ [] =
    none_of c.open_wanted.new.own.missing.items _ c.in_ok-open_wanted.ensures.missing
    (omega (arith, eqb-true _ _ (sym c.is_empty.ensures ∙ c.if-is_empty.true), c.open_wanted.new.own.missing.ok)) in
    let base_cells : List Rect = g.B.Base.cells_of c.args.source.now.base in
    sym (ap (raised c.args.source.now.fetched)
    (no_fetches top held g.S.Stage.needed base_cells c.args.wanted.now none)
    ∙ raised_none c.args.source.now.fetched (omega (arith, c.if-prove-2.false)))

pub returns-then-is_empty-clause-ran : goal.returns-then-is_empty-clause-ran
returns-then-is_empty-clause-ran g t c =
    let P : Plane = g.B.Base.plane c.args.source.now.base in
    let top = on_top g.S.Stage.takes g.S.Stage.shaped g.S.Stage.apply g.met.S.Stage.makes_shapes
    g.met.S.Stage.makes_planes P c.shape-shape.result c.shape-shape.ensures.shape c.shape-shape.ensures.plane
    c.args.side c.args.stages.now c.in-Some-split_last.below.now c.in-Some-split_last.stage.now c.args.layers.now
    c.in-Some-split_last-2.lower_layers.now c.in-Some-split_last-2.layer.now c.new-grid.result
    c.in-Some-split_last.ensures.cases.0 (omega (arith, c.in-Some-split_last.ensures.cases.1))
    c.in-Some-split_last-2.ensures.cases.0 c.requires.layers c.new-grid.ensures.shape c.new-grid.ensures.side in
    let held : Held = g.C.Cache.held c.args.cache.now in
    let none : missing held (length c.args.stages.now)
    (meeting (grid_cells c.new-grid.result.shape c.new-grid.result.side) c.args.wanted.now) ≡ [] =
    none_of c.open_wanted.new.own.missing.items _ c.in_ok-open_wanted.ensures.missing
    (omega (arith, eqb-true _ _ (sym c.is_empty.ensures ∙ c.if-is_empty.true), c.open_wanted.new.own.missing.ok)) in
    sym (ap (raised c.args.ran.now) (no_runs top held g.S.Stage.needed c.args.wanted.now none)
    ∙ raised_none c.args.ran.now (omega (arith, c.if-prove.false)))

pub returns-then-is_empty-clause-kept : goal.returns-then-is_empty-clause-kept
returns-then-is_empty-clause-kept g t c =
    let P : Plane = g.B.Base.plane c.args.source.now.base in
    let top = on_top g.S.Stage.takes g.S.Stage.shaped g.S.Stage.apply g.met.S.Stage.makes_shapes
    g.met.S.Stage.makes_planes P c.shape-shape.result c.shape-shape.ensures.shape c.shape-shape.ensures.plane
    c.args.side c.args.stages.now c.in-Some-split_last.below.now c.in-Some-split_last.stage.now c.args.layers.now
    c.in-Some-split_last-2.lower_layers.now c.in-Some-split_last-2.layer.now c.new-grid.result
    c.in-Some-split_last.ensures.cases.0 (omega (arith, c.in-Some-split_last.ensures.cases.1))
    c.in-Some-split_last-2.ensures.cases.0 c.requires.layers c.new-grid.ensures.shape c.new-grid.ensures.side in
    let held : Held = g.C.Cache.held c.args.cache.now in
    let none : missing held (length c.args.stages.now)
    (meeting (grid_cells c.new-grid.result.shape c.new-grid.result.side) c.args.wanted.now) ≡ [] =
    none_of c.open_wanted.new.own.missing.items _ c.in_ok-open_wanted.ensures.missing
    (omega (arith, eqb-true _ _ (sym c.is_empty.ensures ∙ c.if-is_empty.true), c.open_wanted.new.own.missing.ok)) in
    let base_cells : List Rect = g.B.Base.cells_of c.args.source.now.base in
    c.in_ok-open_wanted.ensures.kept
    ∙ sym (kept_fresh top held g.S.Stage.needed (g.C.Cache.kept c.args.cache.now) P.planes base_cells
    c.args.wanted.now none)

pub make-requires : goal.make-requires
make-requires g t c κs within =
    let shaped = g.S.Stage.shaped in
    let need = g.S.Stage.needed in
    let P : Plane = g.B.Base.plane c.args.source.now.base in
    let input : Shape = shape_of P in
    let all = c.args.stages.now in
    let stage = c.in-Some-split_last.stage.now in
    let below = c.in-Some-split_last.below.now in
    let layer : Layer = c.in-Some-split_last-2.layer.now in
    let grid : Grid = c.new-grid.result in
    let side : ℕ = c.args.side in
    let top = on_top g.S.Stage.takes shaped g.S.Stage.apply g.met.S.Stage.makes_shapes g.met.S.Stage.makes_planes P
    c.shape-shape.result c.shape-shape.ensures.shape c.shape-shape.ensures.plane side all below stage
    c.args.layers.now c.in-Some-split_last-2.lower_layers.now layer grid
    c.in-Some-split_last.ensures.cases.0 (omega (arith, c.in-Some-split_last.ensures.cases.1))
    c.in-Some-split_last-2.ensures.cases.0 c.requires.layers c.new-grid.ensures.shape c.new-grid.ensures.side in
    let cells : List Rect = grid_cells grid.shape grid.side in
    let plane : ℕ = length all in
    let tier : Tier _ = tier_on stage layer grid in
    let tiers : List (Tier _) = tiers_of shaped side input below in
    let held : Held = g.C.Cache.held c.args.cache.now in
    let wanted : List Rect = c.args.wanted.now in
    let kept = held_on_top g.S.Stage.takes shaped g.S.Stage.apply held input P side all below stage
    c.in-Some-split_last-2.lower_layers.now layer grid top c.requires.right in
    let opened : Held = g.C.Cache.held c.open_wanted.new.cache in
    let numbers : List ℕ = meeting cells wanted in
    let gone : List ℕ = missing held plane numbers in
    let needs : List Rect = needs_of held need plane tier wanted in
    let lent : c.deref.result.now ≡ needs = c.deref.ensures.value ∙ c.in_ok-open_wanted.ensures.needs in
    let up = grid_makes_up grid.shape grid.side (omega (arith, grid.least)) in
    let smaller : length below < length all = omega (arith, c.in-Some-split_last.ensures.cases.1) in
    let parts : All (λ (rect : Rect). IsPart rect (last_shape shaped input below)) c.deref.result.now =
    subst (λ (xs : List Rect). All (λ (rect : Rect). IsPart rect (last_shape shaped input below)) xs) (sym lent)
    (All-map (λ (rect : Rect). IsPart rect (last_shape shaped input below)) (need stage layer.input)
    (cells_at cells gone)
    (All-weaker (λ (rect : Rect). IsPart rect grid.shape) (λ (rect : Rect). IsPart (need stage layer.input rect)
    (last_shape shaped input below))
    (λ rect part. subst (λ (t : Shape). IsPart (need stage layer.input rect) t) top.low
    (g.met.S.Stage.needs_part stage layer.input rect top.input top.taken
    (subst (λ (t : Shape). IsPart rect t) top.grid part)))
    (cells_at cells gone)
    (cells_are_parts grid.shape cells gone up (missing_bounds held plane cells wanted)))) in
    let room : length c.in-Some.rest.now ≡ length below + 1 =
    omega (arith, c.requires.needed, c.in-Some.ensures.cases.1, c.in-Some-split_last.ensures.cases.1) in
    let marks : length (g.C.Cache.marks c.open_wanted.new.cache).stamps
    ≡ length (g.C.Cache.marks c.args.cache.now).stamps =
    ap (λ (m : Marks). length m.stamps) c.open_wanted.ensures.marks in (
      search rules,
      (
        search rules,
        (
          search rules,
          (
            search rules,
            (
              search rules,
              (
                c.requires.least,
                (
                  c.requires.most,
                  (
                    omega (arith, c.requires.few, smaller),
                    (
                      omega (arith, c.requires.stamped, smaller, marks),
                      (
                        c.requires.cells,
                        (
                          top.below,
                          (
                            room,
                            (
                              parts,
                              (
                                right_same held opened 0 P (g.B.Base.cells_of c.args.source.now.base)
                                    c.open_wanted.ensures.held c.requires.base_right,
                                rights_same g.S.Stage.apply held opened P tiers c.open_wanted.ensures.held
                                    kept.rights,
                              ),
                            ),
                          ),
                        ),
                      ),
                    ),
                  ),
                ),
              ),
            ),
          ),
        ),
      ),
    )

pub returns-in_err-make-clause-right : goal.returns-in_err-make-clause-right
returns-in_err-make-clause-right g t c =
    let P : Plane = g.B.Base.plane c.args.source.now.base in
    let top = on_top g.S.Stage.takes g.S.Stage.shaped g.S.Stage.apply g.met.S.Stage.makes_shapes
    g.met.S.Stage.makes_planes P c.shape-shape.result c.shape-shape.ensures.shape c.shape-shape.ensures.plane
    c.args.side c.args.stages.now c.in-Some-split_last.below.now c.in-Some-split_last.stage.now c.args.layers.now
    c.in-Some-split_last-2.lower_layers.now c.in-Some-split_last-2.layer.now c.new-grid.result
    c.in-Some-split_last.ensures.cases.0 (omega (arith, c.in-Some-split_last.ensures.cases.1))
    c.in-Some-split_last-2.ensures.cases.0 c.requires.layers c.new-grid.ensures.shape c.new-grid.ensures.side in
    rights_below top (g.C.Cache.held c.args.cache.now) (g.C.Cache.held c.open_wanted.new.cache)
    (g.C.Cache.held c.make.new.cache) c.open_wanted.ensures.held c.make.ensures.above c.requires.right
    c.make.ensures.right

pub run_missing-requires-clause-shape : goal.run_missing-requires-clause-shape
run_missing-requires-clause-shape g t c =
    let P : Plane = g.B.Base.plane c.args.source.now.base in
    let top = on_top g.S.Stage.takes g.S.Stage.shaped g.S.Stage.apply g.met.S.Stage.makes_shapes
    g.met.S.Stage.makes_planes P c.shape-shape.result c.shape-shape.ensures.shape c.shape-shape.ensures.plane
    c.args.side c.args.stages.now c.in-Some-split_last.below.now c.in-Some-split_last.stage.now c.args.layers.now
    c.in-Some-split_last-2.lower_layers.now c.in-Some-split_last-2.layer.now c.new-grid.result
    c.in-Some-split_last.ensures.cases.0 (omega (arith, c.in-Some-split_last.ensures.cases.1))
    c.in-Some-split_last-2.ensures.cases.0 c.requires.layers c.new-grid.ensures.shape c.new-grid.ensures.side in
    top.input

pub run_missing-requires-clause-takes : goal.run_missing-requires-clause-takes
run_missing-requires-clause-takes g t c =
    let P : Plane = g.B.Base.plane c.args.source.now.base in
    let top = on_top g.S.Stage.takes g.S.Stage.shaped g.S.Stage.apply g.met.S.Stage.makes_shapes
    g.met.S.Stage.makes_planes P c.shape-shape.result c.shape-shape.ensures.shape c.shape-shape.ensures.plane
    c.args.side c.args.stages.now c.in-Some-split_last.below.now c.in-Some-split_last.stage.now c.args.layers.now
    c.in-Some-split_last-2.lower_layers.now c.in-Some-split_last-2.layer.now c.new-grid.result
    c.in-Some-split_last.ensures.cases.0 (omega (arith, c.in-Some-split_last.ensures.cases.1))
    c.in-Some-split_last-2.ensures.cases.0 c.requires.layers c.new-grid.ensures.shape c.new-grid.ensures.side in
    top.taken

pub run_missing-requires-clause-grid : goal.run_missing-requires-clause-grid
run_missing-requires-clause-grid g t c =
    let P : Plane = g.B.Base.plane c.args.source.now.base in
    let top = on_top g.S.Stage.takes g.S.Stage.shaped g.S.Stage.apply g.met.S.Stage.makes_shapes
    g.met.S.Stage.makes_planes P c.shape-shape.result c.shape-shape.ensures.shape c.shape-shape.ensures.plane
    c.args.side c.args.stages.now c.in-Some-split_last.below.now c.in-Some-split_last.stage.now c.args.layers.now
    c.in-Some-split_last-2.lower_layers.now c.in-Some-split_last-2.layer.now c.new-grid.result
    c.in-Some-split_last.ensures.cases.0 (omega (arith, c.in-Some-split_last.ensures.cases.1))
    c.in-Some-split_last-2.ensures.cases.0 c.requires.layers c.new-grid.ensures.shape c.new-grid.ensures.side in
    top.grid

pub run_missing-requires-clause-numbers : goal.run_missing-requires-clause-numbers
run_missing-requires-clause-numbers g t c =
    let cells : List Rect = grid_cells c.new-grid.result.shape c.new-grid.result.side in
    let plane : ℕ = length c.args.stages.now in
    let held : Held = g.C.Cache.held c.args.cache.now in
    let numbers : List ℕ = meeting cells c.args.wanted.now in
    let gone : List ℕ = missing held plane numbers in
    let rest : c.deref-2.result.now ≡ gone = c.deref-2.ensures.value ∙ c.in_ok-open_wanted.ensures.missing in
    subst (λ (xs : List ℕ). All (λ k. k < length cells) xs) (sym rest)
    (missing_bounds held plane cells c.args.wanted.now)

pub run_missing-requires-clause-inside : goal.run_missing-requires-clause-inside
run_missing-requires-clause-inside g t c =
    let cells : List Rect = grid_cells c.new-grid.result.shape c.new-grid.result.side in
    let plane : ℕ = length c.args.stages.now in
    let held : Held = g.C.Cache.held c.args.cache.now in
    let numbers : List ℕ = meeting cells c.args.wanted.now in
    let gone : List ℕ = missing held plane numbers in
    let rest : c.deref-2.result.now ≡ gone = c.deref-2.ensures.value ∙ c.in_ok-open_wanted.ensures.missing in
    subst (λ (xs : List ℕ). All (λ k. LiesIn (cell_at cells k) c.open_wanted.new.patch.rect) xs) (sym rest)
    (missing_told (λ x. LiesIn x c.open_wanted.new.patch.rect) cells held plane numbers
    c.in_ok-open_wanted.ensures.lie)

pub run_missing-requires-clause-needs : goal.run_missing-requires-clause-needs
run_missing-requires-clause-needs g t c =
    let P : Plane = g.B.Base.plane c.args.source.now.base in
    let held : Held = g.C.Cache.held c.args.cache.now in
    let asked : c.deref.result.now ≡ needs_of held g.S.Stage.needed (length c.args.stages.now)
    (tier_on c.in-Some-split_last.stage.now c.in-Some-split_last-2.layer.now c.new-grid.result) c.args.wanted.now =
    c.deref.ensures.value ∙ c.in_ok-open_wanted.ensures.needs in
    let rest : c.deref-2.result.now ≡ missing held (length c.args.stages.now)
    (meeting (grid_cells c.new-grid.result.shape c.new-grid.result.side) c.args.wanted.now) =
    c.deref-2.ensures.value ∙ c.in_ok-open_wanted.ensures.missing in
    let Q : Plane = whole_of g.S.Stage.apply c.in-Some-split_last.below.now P in
    let cells : List Rect = grid_cells c.new-grid.result.shape c.new-grid.result.side in
    let gone : List ℕ = missing held (length c.args.stages.now) (meeting cells c.args.wanted.now) in
    let need : Rect → Rect = g.S.Stage.needed c.in-Some-split_last.stage.now c.in-Some-split_last-2.layer.now.input in
    needs_lie Q c.make.new.patch c.view.result need cells c.deref.result.now gone c.deref-2.result.now c.view.ensures
    asked rest c.in_ok-make.ensures.shows

pub run_missing-requires-clause-lower : goal.run_missing-requires-clause-lower
run_missing-requires-clause-lower g t c =
    let P : Plane = g.B.Base.plane c.args.source.now.base in
    let top = on_top g.S.Stage.takes g.S.Stage.shaped g.S.Stage.apply g.met.S.Stage.makes_shapes
    g.met.S.Stage.makes_planes P c.shape-shape.result c.shape-shape.ensures.shape c.shape-shape.ensures.plane
    c.args.side c.args.stages.now c.in-Some-split_last.below.now c.in-Some-split_last.stage.now c.args.layers.now
    c.in-Some-split_last-2.lower_layers.now c.in-Some-split_last-2.layer.now c.new-grid.result
    c.in-Some-split_last.ensures.cases.0 (omega (arith, c.in-Some-split_last.ensures.cases.1))
    c.in-Some-split_last-2.ensures.cases.0 c.requires.layers c.new-grid.ensures.shape c.new-grid.ensures.side in
    ap (λ (V : Lent). V.planes) c.view.ensures ∙ c.in_ok-make.ensures.planes
    ∙ ap (λ (t : Shape). t.planes) (sym top.low)

pub run_missing-requires-clause-rising : goal.run_missing-requires-clause-rising
run_missing-requires-clause-rising g t c =
    let cells : List Rect = grid_cells c.new-grid.result.shape c.new-grid.result.side in
    let plane : ℕ = length c.args.stages.now in
    let held : Held = g.C.Cache.held c.args.cache.now in
    let numbers : List ℕ = meeting cells c.args.wanted.now in
    let gone : List ℕ = missing held plane numbers in
    let rest : c.deref-2.result.now ≡ gone = c.deref-2.ensures.value ∙ c.in_ok-open_wanted.ensures.missing in
    subst IsStrictlyIncreasing (sym rest) (missing_rises held plane cells c.args.wanted.now)

pub run_missing-requires-clause-absent : goal.run_missing-requires-clause-absent
run_missing-requires-clause-absent g t c =
    let cells : List Rect = grid_cells c.new-grid.result.shape c.new-grid.result.side in
    let plane : ℕ = length c.args.stages.now in
    let held : Held = g.C.Cache.held c.args.cache.now in
    let numbers : List ℕ = meeting cells c.args.wanted.now in
    let gone : List ℕ = missing held plane numbers in
    let rest : c.deref-2.result.now ≡ gone = c.deref-2.ensures.value ∙ c.in_ok-open_wanted.ensures.missing in
    let under : Held = g.C.Cache.held c.make.new.cache in
    let long : length c.in-Some-split_last.below.now < plane = omega (arith, c.in-Some-split_last.ensures.cases.1) in
    subst (λ (xs : List ℕ). All (λ k. under.holds plane k ≡ false) xs) (sym rest)
    (absent_later held under plane numbers (λ k now. sym (c.open_wanted.ensures.held.holds plane k)
    ∙ (c.make.ensures.above.above plane k long now).0))

pub returns-in_err-run_missing-clause-right : goal.returns-in_err-run_missing-clause-right
returns-in_err-run_missing-clause-right g t c =
    let P : Plane = g.B.Base.plane c.args.source.now.base in
    let top = on_top g.S.Stage.takes g.S.Stage.shaped g.S.Stage.apply g.met.S.Stage.makes_shapes
    g.met.S.Stage.makes_planes P c.shape-shape.result c.shape-shape.ensures.shape c.shape-shape.ensures.plane
    c.args.side c.args.stages.now c.in-Some-split_last.below.now c.in-Some-split_last.stage.now c.args.layers.now
    c.in-Some-split_last-2.lower_layers.now c.in-Some-split_last-2.layer.now c.new-grid.result
    c.in-Some-split_last.ensures.cases.0 (omega (arith, c.in-Some-split_last.ensures.cases.1))
    c.in-Some-split_last-2.ensures.cases.0 c.requires.layers c.new-grid.ensures.shape c.new-grid.ensures.side in
    let held : Held = g.C.Cache.held c.args.cache.now in
    let asked : c.deref.result.now ≡ needs_of held g.S.Stage.needed (length c.args.stages.now)
    (tier_on c.in-Some-split_last.stage.now c.in-Some-split_last-2.layer.now c.new-grid.result) c.args.wanted.now =
    c.deref.ensures.value ∙ c.in_ok-open_wanted.ensures.needs in
    let rest : c.deref-2.result.now ≡ missing held (length c.args.stages.now)
    (meeting (grid_cells c.new-grid.result.shape c.new-grid.result.side) c.args.wanted.now) =
    c.deref-2.ensures.value ∙ c.in_ok-open_wanted.ensures.missing in
    let Q : Plane = whole_of g.S.Stage.apply c.in-Some-split_last.below.now P in
    let cells : List Rect = grid_cells c.new-grid.result.shape c.new-grid.result.side in
    let gone : List ℕ = missing held (length c.args.stages.now) (meeting cells c.args.wanted.now) in
    let need : Rect → Rect = g.S.Stage.needed c.in-Some-split_last.stage.now c.in-Some-split_last-2.layer.now.input in
    let agrees : All (λ k. AgreesWith Q c.view.result (need (cell_at cells k))) c.deref-2.result.now =
    needs_agree Q c.make.new.patch c.view.result need cells c.deref.result.now gone c.deref-2.result.now c.view.ensures
    asked rest c.in_ok-make.ensures.shows in
    let under : Held = g.C.Cache.held c.make.new.cache in
    rights_above top under (g.C.Cache.held c.run_missing.new.cache) c.run_missing.ensures.others
    (c.run_missing.ensures.right Q top.lower agrees)
    (rights_below top held (g.C.Cache.held c.open_wanted.new.cache) under c.open_wanted.ensures.held
    c.make.ensures.above c.requires.right c.make.ensures.right)

pub returns-clause-right : goal.returns-clause-right
returns-clause-right g t c =
    let P : Plane = g.B.Base.plane c.args.source.now.base in
    let top = on_top g.S.Stage.takes g.S.Stage.shaped g.S.Stage.apply g.met.S.Stage.makes_shapes
    g.met.S.Stage.makes_planes P c.shape-shape.result c.shape-shape.ensures.shape c.shape-shape.ensures.plane
    c.args.side c.args.stages.now c.in-Some-split_last.below.now c.in-Some-split_last.stage.now c.args.layers.now
    c.in-Some-split_last-2.lower_layers.now c.in-Some-split_last-2.layer.now c.new-grid.result
    c.in-Some-split_last.ensures.cases.0 (omega (arith, c.in-Some-split_last.ensures.cases.1))
    c.in-Some-split_last-2.ensures.cases.0 c.requires.layers c.new-grid.ensures.shape c.new-grid.ensures.side in
    let held : Held = g.C.Cache.held c.args.cache.now in
    let asked : c.deref.result.now ≡ needs_of held g.S.Stage.needed (length c.args.stages.now)
    (tier_on c.in-Some-split_last.stage.now c.in-Some-split_last-2.layer.now c.new-grid.result) c.args.wanted.now =
    c.deref.ensures.value ∙ c.in_ok-open_wanted.ensures.needs in
    let rest : c.deref-2.result.now ≡ missing held (length c.args.stages.now)
    (meeting (grid_cells c.new-grid.result.shape c.new-grid.result.side) c.args.wanted.now) =
    c.deref-2.ensures.value ∙ c.in_ok-open_wanted.ensures.missing in
    let Q : Plane = whole_of g.S.Stage.apply c.in-Some-split_last.below.now P in
    let cells : List Rect = grid_cells c.new-grid.result.shape c.new-grid.result.side in
    let gone : List ℕ = missing held (length c.args.stages.now) (meeting cells c.args.wanted.now) in
    let need : Rect → Rect = g.S.Stage.needed c.in-Some-split_last.stage.now c.in-Some-split_last-2.layer.now.input in
    let agrees : All (λ k. AgreesWith Q c.view.result (need (cell_at cells k))) c.deref-2.result.now =
    needs_agree Q c.make.new.patch c.view.result need cells c.deref.result.now gone c.deref-2.result.now c.view.ensures
    asked rest c.in_ok-make.ensures.shows in
    let under : Held = g.C.Cache.held c.make.new.cache in
    rights_above top under (g.C.Cache.held c.run_missing.new.cache) c.run_missing.ensures.others
    (c.run_missing.ensures.right Q top.lower agrees)
    (rights_below top held (g.C.Cache.held c.open_wanted.new.cache) under c.open_wanted.ensures.held
    c.make.ensures.above c.requires.right c.make.ensures.right)

pub returns-in_err-run_missing-clause-above : goal.returns-in_err-run_missing-clause-above
returns-in_err-run_missing-clause-above g t c =
    let plane : ℕ = length c.args.stages.now in
    let held : Held = g.C.Cache.held c.args.cache.now in
    let opened : Held = g.C.Cache.held c.open_wanted.new.cache in
    let under : Held = g.C.Cache.held c.make.new.cache in
    let long : length c.in-Some-split_last.below.now ≤ plane = omega (arith, c.in-Some-split_last.ensures.cases.1) in
    takes_run held under (g.C.Cache.held c.run_missing.new.cache) plane
    (takes_lower held opened under (length c.in-Some-split_last.below.now) plane c.open_wanted.ensures.held
    c.make.ensures.above long) c.run_missing.ensures.others

pub returns-clause-above : goal.returns-clause-above
returns-clause-above g t c =
    let plane : ℕ = length c.args.stages.now in
    let held : Held = g.C.Cache.held c.args.cache.now in
    let opened : Held = g.C.Cache.held c.open_wanted.new.cache in
    let under : Held = g.C.Cache.held c.make.new.cache in
    let long : length c.in-Some-split_last.below.now ≤ plane = omega (arith, c.in-Some-split_last.ensures.cases.1) in
    takes_run held under (g.C.Cache.held c.run_missing.new.cache) plane
    (takes_lower held opened under (length c.in-Some-split_last.below.now) plane c.open_wanted.ensures.held
    c.make.ensures.above long) c.run_missing.ensures.others

pub returns-clause-whole : goal.returns-clause-whole
returns-clause-whole g t c =
    let P : Plane = g.B.Base.plane c.args.source.now.base in
    let input : Shape = shape_of P in
    let top = on_top g.S.Stage.takes g.S.Stage.shaped g.S.Stage.apply g.met.S.Stage.makes_shapes
    g.met.S.Stage.makes_planes P c.shape-shape.result c.shape-shape.ensures.shape c.shape-shape.ensures.plane
    c.args.side c.args.stages.now c.in-Some-split_last.below.now c.in-Some-split_last.stage.now c.args.layers.now
    c.in-Some-split_last-2.lower_layers.now c.in-Some-split_last-2.layer.now c.new-grid.result
    c.in-Some-split_last.ensures.cases.0 (omega (arith, c.in-Some-split_last.ensures.cases.1))
    c.in-Some-split_last-2.ensures.cases.0 c.requires.layers c.new-grid.ensures.shape c.new-grid.ensures.side in
    subst (λ (X : Plane). IsPlane X (last_shape g.S.Stage.shaped input c.args.stages.now)) (sym top.whole)
    (subst (λ (t : Shape). IsPlane
    (g.S.Stage.apply c.in-Some-split_last.stage.now (whole_of g.S.Stage.apply c.in-Some-split_last.below.now P)) t)
    (sym top.last) top.own)

pub returns-clause-planes : goal.returns-clause-planes
returns-clause-planes g t c =
    let P : Plane = g.B.Base.plane c.args.source.now.base in
    let top = on_top g.S.Stage.takes g.S.Stage.shaped g.S.Stage.apply g.met.S.Stage.makes_shapes
    g.met.S.Stage.makes_planes P c.shape-shape.result c.shape-shape.ensures.shape c.shape-shape.ensures.plane
    c.args.side c.args.stages.now c.in-Some-split_last.below.now c.in-Some-split_last.stage.now c.args.layers.now
    c.in-Some-split_last-2.lower_layers.now c.in-Some-split_last-2.layer.now c.new-grid.result
    c.in-Some-split_last.ensures.cases.0 (omega (arith, c.in-Some-split_last.ensures.cases.1))
    c.in-Some-split_last-2.ensures.cases.0 c.requires.layers c.new-grid.ensures.shape c.new-grid.ensures.side in
    c.run_missing.ensures.planes ∙ c.in_ok-open_wanted.ensures.planes ∙ ap (λ (t : Shape). t.planes) (sym top.last)

pub returns-clause-shows : goal.returns-clause-shows
returns-clause-shows g t c =
    let P : Plane = g.B.Base.plane c.args.source.now.base in
    let top = on_top g.S.Stage.takes g.S.Stage.shaped g.S.Stage.apply g.met.S.Stage.makes_shapes
    g.met.S.Stage.makes_planes P c.shape-shape.result c.shape-shape.ensures.shape c.shape-shape.ensures.plane
    c.args.side c.args.stages.now c.in-Some-split_last.below.now c.in-Some-split_last.stage.now c.args.layers.now
    c.in-Some-split_last-2.lower_layers.now c.in-Some-split_last-2.layer.now c.new-grid.result
    c.in-Some-split_last.ensures.cases.0 (omega (arith, c.in-Some-split_last.ensures.cases.1))
    c.in-Some-split_last-2.ensures.cases.0 c.requires.layers c.new-grid.ensures.shape c.new-grid.ensures.side in
    let held : Held = g.C.Cache.held c.args.cache.now in
    let asked : c.deref.result.now ≡ needs_of held g.S.Stage.needed (length c.args.stages.now)
    (tier_on c.in-Some-split_last.stage.now c.in-Some-split_last-2.layer.now c.new-grid.result) c.args.wanted.now =
    c.deref.ensures.value ∙ c.in_ok-open_wanted.ensures.needs in
    let rest : c.deref-2.result.now ≡ missing held (length c.args.stages.now)
    (meeting (grid_cells c.new-grid.result.shape c.new-grid.result.side) c.args.wanted.now) =
    c.deref-2.ensures.value ∙ c.in_ok-open_wanted.ensures.missing in
    let Q : Plane = whole_of g.S.Stage.apply c.in-Some-split_last.below.now P in
    let cells : List Rect = grid_cells c.new-grid.result.shape c.new-grid.result.side in
    let gone : List ℕ = missing held (length c.args.stages.now) (meeting cells c.args.wanted.now) in
    let need : Rect → Rect = g.S.Stage.needed c.in-Some-split_last.stage.now c.in-Some-split_last-2.layer.now.input in
    let agrees : All (λ k. AgreesWith Q c.view.result (need (cell_at cells k))) c.deref-2.result.now =
    needs_agree Q c.make.new.patch c.view.result need cells c.deref.result.now gone c.deref-2.result.now c.view.ensures
    asked rest c.in_ok-make.ensures.shows in
    let grid : Grid = c.new-grid.result in
    let wanted : List Rect = c.args.wanted.now in
    let numbers : List ℕ = meeting cells wanted in
    let plane : ℕ = length c.args.stages.now in
    let kept = held_on_top g.S.Stage.takes g.S.Stage.shaped g.S.Stage.apply held (shape_of P) P c.args.side
    c.args.stages.now c.in-Some-split_last.below.now c.in-Some-split_last.stage.now
    c.in-Some-split_last-2.lower_layers.now c.in-Some-split_last-2.layer.now grid top c.requires.right in
    let R : Plane = g.S.Stage.apply c.in-Some-split_last.stage.now Q in
    let parts : All (λ (rect : Rect). IsPart rect grid.shape) wanted =
    subst (λ (t : Shape). All (λ (rect : Rect). IsPart rect t) wanted) top.last c.requires.wanted in
    let up = grid_makes_up grid.shape grid.side (omega (arith, grid.least)) in
    let patch : Lent = c.run_missing.new.patch in
    let had : HasCells R c.open_wanted.new.patch wanted cells (fresh held plane numbers) =
    c.in_ok-open_wanted.ensures.cells R top.own.shape.planes kept.right in
    let filled : HasCells R patch wanted cells (fresh held plane numbers ++ gone) =
    subst (λ (xs : List ℕ). HasCells R patch wanted cells (fresh held plane numbers ++ xs)) rest
    (c.in_ok-run_missing.ensures.copied Q wanted (fresh held plane numbers) top.lower agrees had) in
    let lie : All (λ (rect : Rect). LiesIn rect patch.rect) (cells_at cells numbers) =
    subst (λ (x : Rect). All (λ (rect : Rect). LiesIn rect x) (cells_at cells numbers)) (sym c.run_missing.ensures.rect)
    c.in_ok-open_wanted.ensures.lie in
    subst (λ (X : Plane). All (Shows X patch) wanted) (sym top.whole)
    (shows_wanted R patch grid.shape cells wanted up parts lie
    (filled_from R patch wanted cells held plane numbers filled))

pub returns-clause-work : goal.returns-clause-work
returns-clause-work g t c =
    let P : Plane = g.B.Base.plane c.args.source.now.base in
    let top = on_top g.S.Stage.takes g.S.Stage.shaped g.S.Stage.apply g.met.S.Stage.makes_shapes
    g.met.S.Stage.makes_planes P c.shape-shape.result c.shape-shape.ensures.shape c.shape-shape.ensures.plane
    c.args.side c.args.stages.now c.in-Some-split_last.below.now c.in-Some-split_last.stage.now c.args.layers.now
    c.in-Some-split_last-2.lower_layers.now c.in-Some-split_last-2.layer.now c.new-grid.result
    c.in-Some-split_last.ensures.cases.0 (omega (arith, c.in-Some-split_last.ensures.cases.1))
    c.in-Some-split_last-2.ensures.cases.0 c.requires.layers c.new-grid.ensures.shape c.new-grid.ensures.side in
    let held : Held = g.C.Cache.held c.args.cache.now in
    let opened : Held = g.C.Cache.held c.open_wanted.new.cache in
    let asked : c.deref.result.now ≡ needs_of held g.S.Stage.needed (length c.args.stages.now)
    (tier_on c.in-Some-split_last.stage.now c.in-Some-split_last-2.layer.now c.new-grid.result) c.args.wanted.now =
    c.deref.ensures.value ∙ c.in_ok-open_wanted.ensures.needs in
    let rest : c.deref-2.result.now ≡ missing held (length c.args.stages.now)
    (meeting (grid_cells c.new-grid.result.shape c.new-grid.result.side) c.args.wanted.now) =
    c.deref-2.ensures.value ∙ c.in_ok-open_wanted.ensures.missing in
    let base_cells : List Rect = g.B.Base.cells_of c.args.source.now.base in
    let fetches = fetches_below top held opened g.S.Stage.needed base_cells c.args.wanted.now c.deref.result.now
    c.open_wanted.ensures.held asked in
    let runs = runs_below top held opened g.S.Stage.needed c.args.wanted.now c.deref.result.now
    c.open_wanted.ensures.held asked in
    omega (arith, c.in_ok-run_missing.ensures.work, c.in_ok-make.ensures.work, fetches, runs, ap length rest)

pub returns-clause-count : goal.returns-clause-count
returns-clause-count g t c =
    let P : Plane = g.B.Base.plane c.args.source.now.base in
    let top = on_top g.S.Stage.takes g.S.Stage.shaped g.S.Stage.apply g.met.S.Stage.makes_shapes
    g.met.S.Stage.makes_planes P c.shape-shape.result c.shape-shape.ensures.shape c.shape-shape.ensures.plane
    c.args.side c.args.stages.now c.in-Some-split_last.below.now c.in-Some-split_last.stage.now c.args.layers.now
    c.in-Some-split_last-2.lower_layers.now c.in-Some-split_last-2.layer.now c.new-grid.result
    c.in-Some-split_last.ensures.cases.0 (omega (arith, c.in-Some-split_last.ensures.cases.1))
    c.in-Some-split_last-2.ensures.cases.0 c.requires.layers c.new-grid.ensures.shape c.new-grid.ensures.side in
    let held : Held = g.C.Cache.held c.args.cache.now in
    let opened : Held = g.C.Cache.held c.open_wanted.new.cache in
    let asked : c.deref.result.now ≡ needs_of held g.S.Stage.needed (length c.args.stages.now)
    (tier_on c.in-Some-split_last.stage.now c.in-Some-split_last-2.layer.now c.new-grid.result) c.args.wanted.now =
    c.deref.ensures.value ∙ c.in_ok-open_wanted.ensures.needs in
    let base_cells : List Rect = g.B.Base.cells_of c.args.source.now.base in
    let fetches = fetches_below top held opened g.S.Stage.needed base_cells c.args.wanted.now c.deref.result.now
    c.open_wanted.ensures.held asked in
    c.in_ok-make.ensures.count ∙ ap (raised (g.B.Base.fetches c.args.source.now.base)) (sym fetches)

pub returns-clause-fetched : goal.returns-clause-fetched
returns-clause-fetched g t c =
    let P : Plane = g.B.Base.plane c.args.source.now.base in
    let top = on_top g.S.Stage.takes g.S.Stage.shaped g.S.Stage.apply g.met.S.Stage.makes_shapes
    g.met.S.Stage.makes_planes P c.shape-shape.result c.shape-shape.ensures.shape c.shape-shape.ensures.plane
    c.args.side c.args.stages.now c.in-Some-split_last.below.now c.in-Some-split_last.stage.now c.args.layers.now
    c.in-Some-split_last-2.lower_layers.now c.in-Some-split_last-2.layer.now c.new-grid.result
    c.in-Some-split_last.ensures.cases.0 (omega (arith, c.in-Some-split_last.ensures.cases.1))
    c.in-Some-split_last-2.ensures.cases.0 c.requires.layers c.new-grid.ensures.shape c.new-grid.ensures.side in
    let held : Held = g.C.Cache.held c.args.cache.now in
    let opened : Held = g.C.Cache.held c.open_wanted.new.cache in
    let asked : c.deref.result.now ≡ needs_of held g.S.Stage.needed (length c.args.stages.now)
    (tier_on c.in-Some-split_last.stage.now c.in-Some-split_last-2.layer.now c.new-grid.result) c.args.wanted.now =
    c.deref.ensures.value ∙ c.in_ok-open_wanted.ensures.needs in
    let base_cells : List Rect = g.B.Base.cells_of c.args.source.now.base in
    let fetches = fetches_below top held opened g.S.Stage.needed base_cells c.args.wanted.now c.deref.result.now
    c.open_wanted.ensures.held asked in
    c.in_ok-make.ensures.fetched ∙ ap (raised c.args.source.now.fetched) (sym fetches)

pub returns-clause-ran : goal.returns-clause-ran
returns-clause-ran g t c =
    let P : Plane = g.B.Base.plane c.args.source.now.base in
    let top = on_top g.S.Stage.takes g.S.Stage.shaped g.S.Stage.apply g.met.S.Stage.makes_shapes
    g.met.S.Stage.makes_planes P c.shape-shape.result c.shape-shape.ensures.shape c.shape-shape.ensures.plane
    c.args.side c.args.stages.now c.in-Some-split_last.below.now c.in-Some-split_last.stage.now c.args.layers.now
    c.in-Some-split_last-2.lower_layers.now c.in-Some-split_last-2.layer.now c.new-grid.result
    c.in-Some-split_last.ensures.cases.0 (omega (arith, c.in-Some-split_last.ensures.cases.1))
    c.in-Some-split_last-2.ensures.cases.0 c.requires.layers c.new-grid.ensures.shape c.new-grid.ensures.side in
    let held : Held = g.C.Cache.held c.args.cache.now in
    let opened : Held = g.C.Cache.held c.open_wanted.new.cache in
    let asked : c.deref.result.now ≡ needs_of held g.S.Stage.needed (length c.args.stages.now)
    (tier_on c.in-Some-split_last.stage.now c.in-Some-split_last-2.layer.now c.new-grid.result) c.args.wanted.now =
    c.deref.ensures.value ∙ c.in_ok-open_wanted.ensures.needs in
    let runs = runs_below top held opened g.S.Stage.needed c.args.wanted.now c.deref.result.now
    c.open_wanted.ensures.held asked in
    let many = ap length c.in_ok-open_wanted.ensures.missing in
    omega (arith, many, c.in_ok-make.ensures.ran, runs, c.saturating_add.ensures, c.len.ensures)

pub returns-clause-kept : goal.returns-clause-kept
returns-clause-kept g t c =
    let P : Plane = g.B.Base.plane c.args.source.now.base in
    let top = on_top g.S.Stage.takes g.S.Stage.shaped g.S.Stage.apply g.met.S.Stage.makes_shapes
    g.met.S.Stage.makes_planes P c.shape-shape.result c.shape-shape.ensures.shape c.shape-shape.ensures.plane
    c.args.side c.args.stages.now c.in-Some-split_last.below.now c.in-Some-split_last.stage.now c.args.layers.now
    c.in-Some-split_last-2.lower_layers.now c.in-Some-split_last-2.layer.now c.new-grid.result
    c.in-Some-split_last.ensures.cases.0 (omega (arith, c.in-Some-split_last.ensures.cases.1))
    c.in-Some-split_last-2.ensures.cases.0 c.requires.layers c.new-grid.ensures.shape c.new-grid.ensures.side in
    let held : Held = g.C.Cache.held c.args.cache.now in
    let opened : Held = g.C.Cache.held c.open_wanted.new.cache in
    let asked : c.deref.result.now ≡ needs_of held g.S.Stage.needed (length c.args.stages.now)
    (tier_on c.in-Some-split_last.stage.now c.in-Some-split_last-2.layer.now c.new-grid.result) c.args.wanted.now =
    c.deref.ensures.value ∙ c.in_ok-open_wanted.ensures.needs in
    let rest : c.deref-2.result.now ≡ missing held (length c.args.stages.now)
    (meeting (grid_cells c.new-grid.result.shape c.new-grid.result.side) c.args.wanted.now) =
    c.deref-2.ensures.value ∙ c.in_ok-open_wanted.ensures.missing in
    let base_cells : List Rect = g.B.Base.cells_of c.args.source.now.base in
    let K_under : Kept = g.C.Cache.kept c.make.new.cache in
    let grid : Grid = c.new-grid.result in
    let size : ℕ → ℕ = size_of (grid_cells grid.shape grid.side) grid.shape.planes in
    c.in_ok-run_missing.ensures.kept
    ∙ ap (λ (xs : List ℕ). put_each K_under (length c.args.stages.now) size xs) rest
    ∙ kept_below top held opened g.S.Stage.needed (g.C.Cache.kept c.args.cache.now)
    (g.C.Cache.kept c.open_wanted.new.cache) K_under P.planes base_cells c.args.wanted.now c.deref.result.now
    c.open_wanted.ensures.held asked c.in_ok-open_wanted.ensures.kept c.in_ok-make.ensures.kept
