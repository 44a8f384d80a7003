use Rattle.std.proofs.Common.{◌≡◌, ℕ, ◌+◌, ◌*◌, List, [], ◌∷◌, length, sym, ◌∙◌, ap, subst, arith}
use Rattle.plane_view.specs.declared.Rect.{Rect}
use Rattle.plane_view.specs.declared.Shape.{Shape}
use Rattle.plane_view.specs.Plane.{Plane, crop}
use Rattle.plane_view.specs.Rectangles.{area_of}
use Rattle.plane_view.specs.Lent.{Lent}
use Rattle.plane_view.specs.Tiles.{CopiesFrom}
use Rattle.plane_view.specs.Shapes.{IsShape}
use Rattle.stage_core.specs.Bases.{AreCells, raised}
use Rattle.stage_core.proofs.Formulas.{shape_is}
use Rattle.stage_core.specs.Planes.{IsPlane}
use Rattle.stage_core.specs.Stages.{shape_of}
use Rattle.stage_chain.specs.Chains.{whole_of}
use Rattle.tile_cache.specs.Cache.{sizes}
use Rattle.kept_cells.specs.Kept.{Kept, Marks, holding, keep_of}
use Rattle.kept_cells.specs.Missing.{count_of_fetches, count_of_runs}
use Rattle.kept_cells.specs.Tiers.{tiers_of}
use Rattle.kept_cells.specs.Tiling.{held_in}
use Rattle.region_session.specs.Sessions.{Opened, keys_after, missing_fetches, missing_runs}
use Rattle.region_session.specs.Stacks.{last_shape}
use Rattle.region_session.proofs.Unkept.{cells_have_samples, keep_unkept, tiers_have_samples}
use Rattle.region_session.proofs.Listing.{fetches_are, keys_are, listed, runs_are}
use Rattle.region_session.proofs.Writing.{copied_crop}
use Rattle.region_session.proofs.session.Session.band.Goals as goal

pub returns-clause-crop : goal.returns-clause-crop
returns-clause-crop g c =
    let apply = g.S.Stage.apply in
    let shaped = g.S.Stage.shaped in
    let P : Plane = g.B.Base.plane c.self.inside.source.base in
    let stages = c.deref.result.now in
    let last : Shape = last_shape shaped (shape_of P) stages in
    let Q : Plane = whole_of apply stages P in
    let new : List ℕ = c.copy_into.new.samples in
    let is_Q : IsPlane Q last = c.in_ok-make.ensures.whole in
    let planes : c.planes.result ≡ Q.planes = c.planes.ensures ∙ c.in_ok-make.ensures.planes ∙ sym is_Q.shape.planes in
    let last_is : last.planes ≡ (last_shape shaped (shape_of c.args.self.now.plane) c.args.self.now.stages).planes =
    ap (λ (xs : List _). (last_shape shaped (shape_of P) xs).planes) c.deref.ensures.value
    ∙ ap (λ (v : _). (last_shape shaped (shape_of v.plane) v.stages).planes) c.self.view_is in
    let long : length new ≡ area_of c.args.rect * c.planes.result = c.copy_into.auto.samples ∙ c.requires.long
    ∙ ap (λ (n : ℕ). area_of c.args.rect * n) (sym (planes ∙ is_Q.shape.planes ∙ last_is)) in
    let copies = subst (λ (x : Lent). CopiesFrom (record {
      rect = c.args.rect;
      planes = c.planes.result;
      samples = c.args.out.now;
    }) (record { rect = c.args.rect; planes = c.planes.result; samples = new }) x
    c.args.rect) c.view.ensures c.copy_into.ensures in
    let made : new ≡ (crop Q c.args.rect).samples = copied_crop Q c.args.rect c.planes.result c.args.out.now new
    c.make.new.patch long planes copies (c.in_ok-make.ensures.shows 0 c.args.rect (omega arith)) in
    subst (λ (v : _). new ≡ (crop (whole_of apply v.stages v.plane) c.args.rect).samples) c.self.view_is
    (subst (λ (xs : List _). new ≡ (crop (whole_of apply xs P) c.args.rect).samples) c.deref.ensures.value made)

pub returns-clause-work : goal.returns-clause-work
returns-clause-work g c =
    let shaped = g.S.Stage.shaped in
    let need = g.S.Stage.needed in
    let s = c.self.inside in
    let P : Plane = g.B.Base.plane s.source.base in
    let cells : List Rect = g.B.Base.cells_of s.source.base in
    let wanted : List Rect = c.args.rect ∷ [] in
    let tiles_at = λ (xs : List _). tiers_of shaped s.side (shape_of P) xs in
    let a = s.tiles.cells in
    let stamps : List ℕ = s.tiles.stamps.stamps in
    let V : Opened _ = record {
      plane = P;
      cells = cells;
      fetches = g.B.Base.fetches s.source.base;
      stages = s.stages.items;
      side = s.side;
      budget = a.budget;
      fetched = s.source.fetched;
      ran = s.ran;
      stamps =
          s.tiles.stamps;
      keys = sizes a.pairs;
    } in
    let fetches : count_of_fetches (held_in a stamps) need cells (tiles_at c.deref.result.now) wanted
    ≡ missing_fetches shaped need V c.args.rect =
    fetches_are need cells (tiles_at c.deref.result.now) wanted a stamps c.self.invariant.slots
    ∙ ap (λ (xs : List _). count_of_fetches (holding (listed a stamps)) need cells (tiles_at xs) wanted)
    c.deref.ensures.value in
    let runs : count_of_runs (held_in a stamps) need 0 (tiles_at c.deref.result.now) wanted ≡ missing_runs shaped need V
    c.args.rect =
    runs_are need cells (tiles_at c.deref.result.now) wanted a stamps c.self.invariant.slots
    ∙ ap (λ (xs : List _). count_of_runs (holding (listed a stamps)) need 0 (tiles_at xs) wanted) c.deref.ensures.value
    in
    let told = c.in_ok-make.ensures in
    told.work
    ∙ ap (λ n. c.args.work.now + (n + count_of_runs (held_in a stamps) need 0 (tiles_at c.deref.result.now) wanted))
    fetches
    ∙ ap (λ n. c.args.work.now + (missing_fetches shaped need V c.args.rect + n)) runs
    ∙ ap (λ (v : Opened _). c.args.work.now + (missing_fetches shaped need v c.args.rect + missing_runs shaped need v
    c.args.rect)) c.self.view_is

pub returns-clause-session : goal.returns-clause-session
returns-clause-session g c =
    let shaped = g.S.Stage.shaped in
    let need = g.S.Stage.needed in
    let s = c.self.inside in
    let P : Plane = g.B.Base.plane s.source.base in
    let cells : List Rect = g.B.Base.cells_of s.source.base in
    let wanted : List Rect = c.args.rect ∷ [] in
    let tiles_at = λ (xs : List _). tiers_of shaped s.side (shape_of P) xs in
    let a = s.tiles.cells in
    let stamps : List ℕ = s.tiles.stamps.stamps in
    let V : Opened _ = record {
      plane = P;
      cells = cells;
      fetches = g.B.Base.fetches s.source.base;
      stages = s.stages.items;
      side = s.side;
      budget = a.budget;
      fetched = s.source.fetched;
      ran = s.ran;
      stamps =
          s.tiles.stamps;
      keys = sizes a.pairs;
    } in
    let fetches : count_of_fetches (held_in a stamps) need cells (tiles_at c.deref.result.now) wanted
    ≡ missing_fetches shaped need V c.args.rect =
    fetches_are need cells (tiles_at c.deref.result.now) wanted a stamps c.self.invariant.slots
    ∙ ap (λ (xs : List _). count_of_fetches (holding (listed a stamps)) need cells (tiles_at xs) wanted)
    c.deref.ensures.value in
    let runs : count_of_runs (held_in a stamps) need 0 (tiles_at c.deref.result.now) wanted ≡ missing_runs shaped need V
    c.args.rect =
    runs_are need cells (tiles_at c.deref.result.now) wanted a stamps c.self.invariant.slots
    ∙ ap (λ (xs : List _). count_of_runs (holding (listed a stamps)) need 0 (tiles_at xs) wanted) c.deref.ensures.value
    in
    let told = c.in_ok-make.ensures in
    let new = c.make.new.cache in
    let keys : sizes new.cells.pairs ≡ keys_after shaped need V c.args.rect =
    ap (λ (K : Kept). K.items) (told.kept
    ∙ keys_are need cells (tiles_at c.deref.result.now) wanted a stamps c.self.invariant.slots P.planes
    ∙ ap (λ (xs : List _). keep_of need (listed a stamps) P.planes cells (tiles_at xs) wanted) c.deref.ensures.value) in
    let budget : new.cells.budget ≡ a.budget = ap (λ (m : Marks). m.budget) told.marks in
    let same : new.stamps ≡ s.tiles.stamps = ap (λ (m : Marks). record { stamps = m.stamps; changes = m.changes })
    told.marks in
    let count = told.count ∙ ap (raised (g.B.Base.fetches s.source.base)) fetches in
    let fetched = told.fetched ∙ ap (raised s.source.fetched) fetches in
    let ran = told.ran ∙ ap (raised s.ran) runs in
    (λ i. record {
      plane = told.plane i;
      cells = told.base_cells i;
      fetches = count i;
      stages = s.stages.items;
      side = s.side;
      budget = budget i;
      fetched = fetched i;
      ran = ran i;
      stamps = same i;
      keys = keys i;
    })
    ∙ ap (λ (v : Opened _).
    record v {
      fetches = raised v.fetches (missing_fetches shaped need v c.args.rect);
      fetched = raised v.fetched (missing_fetches shaped need v c.args.rect);
      ran = raised v.ran (missing_runs shaped need v c.args.rect);
      keys = keys_after shaped need v c.args.rect;
    }) c.self.view_is

pub returns-clause-nothing : goal.returns-clause-nothing
returns-clause-nothing g c = λ zero none.
    let shaped = g.S.Stage.shaped in
    let need = g.S.Stage.needed in
    let s = c.self.inside in
    let P : Plane = g.B.Base.plane s.source.base in
    let cells : List Rect = g.B.Base.cells_of s.source.base in
    let wanted : List Rect = c.args.rect ∷ [] in
    let tiles_at = λ (xs : List _). tiers_of shaped s.side (shape_of P) xs in
    let a = s.tiles.cells in
    let stamps : List ℕ = s.tiles.stamps.stamps in
    let V : Opened _ = record {
      plane = P;
      cells = cells;
      fetches = g.B.Base.fetches s.source.base;
      stages = s.stages.items;
      side = s.side;
      budget = a.budget;
      fetched = s.source.fetched;
      ran = s.ran;
      stamps =
          s.tiles.stamps;
      keys = sizes a.pairs;
    } in
    let fetches : count_of_fetches (held_in a stamps) need cells (tiles_at c.deref.result.now) wanted
    ≡ missing_fetches shaped need V c.args.rect =
    fetches_are need cells (tiles_at c.deref.result.now) wanted a stamps c.self.invariant.slots
    ∙ ap (λ (xs : List _). count_of_fetches (holding (listed a stamps)) need cells (tiles_at xs) wanted)
    c.deref.ensures.value in
    let runs : count_of_runs (held_in a stamps) need 0 (tiles_at c.deref.result.now) wanted ≡ missing_runs shaped need V
    c.args.rect =
    runs_are need cells (tiles_at c.deref.result.now) wanted a stamps c.self.invariant.slots
    ∙ ap (λ (xs : List _). count_of_runs (holding (listed a stamps)) need 0 (tiles_at xs) wanted) c.deref.ensures.value
    in
    let told = c.in_ok-make.ensures in
    let new = c.make.new.cache in
    let keys : sizes new.cells.pairs ≡ keys_after shaped need V c.args.rect =
    ap (λ (K : Kept). K.items) (told.kept
    ∙ keys_are need cells (tiles_at c.deref.result.now) wanted a stamps c.self.invariant.slots P.planes
    ∙ ap (λ (xs : List _). keep_of need (listed a stamps) P.planes cells (tiles_at xs) wanted) c.deref.ensures.value) in
    let none_kept : V.keys ≡ [] = subst (λ (v : Opened _). v.keys ≡ []) (sym c.self.view_is) none in
    let no_budget : V.budget ≡ 0 = subst (λ (v : Opened _). v.budget ≡ 0) (sym c.self.view_is) zero in
    let input : Shape = shape_of P in
    let told : input ≡ c.shape-shape.result = shape_is P c.shape-shape.result c.shape-shape.ensures.plane in
    let is : IsShape input = subst IsShape (sym told) c.shape-shape.ensures.shape in
    let are : AreCells cells input = subst (λ (t : Shape). AreCells cells t) (sym told) c.shape-shape.ensures.cells in
    let list : Kept = listed a stamps in
    let same : keep_of need list P.planes cells (tiles_at s.stages.items) wanted ≡ list =
    keep_unkept (holding list) need list P.planes cells (tiles_at s.stages.items) wanted
    (record { none = none_kept; zero = no_budget }) (cells_have_samples input cells are.plane is)
    (tiers_have_samples g.S.Stage.takes shaped g.met.S.Stage.makes_shapes s.side (omega (arith, c.self.invariant.least))
    input s.stages.items s.layers.items c.self.invariant.stand is) in
    keys ∙ ap (λ (K : Kept). K.items) same ∙ none_kept
