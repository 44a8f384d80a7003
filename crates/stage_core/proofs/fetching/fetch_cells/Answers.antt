use Rattle.std.proofs.Common.{◌≡◌, ◌+◌, List, length, Some, slice_get, refl, sym, ◌∙◌, ap, subst, arith}
use Rattle.plane_view.specs.declared.Rect.{Rect}
use Rattle.plane_view.specs.Plane.{Plane}
use Rattle.plane_view.specs.Lent.{AgreesWith, Lent}
use Rattle.plane_view.specs.Tiles.{loan, tile_rect}
use Rattle.stage_core.specs.Bases.{raised}
use Rattle.stage_core.proofs.FetchedCells.{cell_inside, fetched_all, fetched_more, fetched_none}
use Rattle.stage_core.proofs.Counting.{raised_more, raised_none}
use Rattle.stage_core.proofs.fetching.fetch_cells.Goals as goal

pub loop-k-init : goal.loop-k-init
loop-k-init g c = record {
  fetched = fetched_none (g.B.Base.plane c.args.base.now) (g.B.Base.cells_of c.args.base.now) c.args.tile.now;
  plane_is = refl;
  cells_are = refl;
  work = omega arith;
  count = sym (raised_none _ (g.met.B.Base.held c.args.base.now));
}

pub focus-requires : goal.focus-requires
focus-requires g c =
    let at : slice_get (g.B.Base.cells_of c.args.base.now) c.loop-k.k ≡ Some c.cell.result =
    subst (λ (cells : List Rect). slice_get cells c.loop-k.k ≡ Some c.cell.result) c.loop-k.invariant.cells_are
    c.cell.ensures in
    cell_inside (g.B.Base.plane c.args.base.now) (g.B.Base.cells_of c.args.base.now) c.shape-shape.result c.loop-k.k
    c.cell.result (loan c.loop-k.tile).rect c.shape-shape.ensures.cells c.shape-shape.ensures.plane
    (c.loop-k.invariant.fetched.rect ∙ c.requires.whole) at

pub fetch-requires : goal.fetch-requires
fetch-requires g c = record {
  cell = c.cell.ensures ∙ ap (λ (rect : Rect). Some rect) (sym c.focus.ensures.rect);
  planes = ap (λ (L : Lent). L.planes) c.focus.ensures.loan
      ∙ (c.loop-k.invariant.fetched.planes
      ∙ (c.requires.planes ∙ ap (λ (P : Plane). P.planes) (sym c.loop-k.invariant.plane_is)));
}

pub loop-k-preserved : goal.loop-k-preserved
loop-k-preserved g c =
    let at : slice_get (g.B.Base.cells_of c.args.base.now) c.loop-k.k ≡ Some c.cell.result =
    subst (λ (cells : List Rect). slice_get cells c.loop-k.k ≡ Some c.cell.result) c.loop-k.invariant.cells_are
    c.cell.ensures in
    let agrees = subst (λ (P : Plane). AgreesWith P (loan c.fetch.new.out) (tile_rect c.focus.new.self))
    c.loop-k.invariant.plane_is c.fetch.ensures.samples in
    record {
      fetched = fetched_more (g.B.Base.plane c.args.base.now) (g.B.Base.cells_of c.args.base.now) c.shape-shape.result
          c.args.tile.now c.loop-k.tile c.focus.new.self c.fetch.new.out c.loop-k.k c.cell.result
          c.shape-shape.ensures.cells c.shape-shape.ensures.plane c.requires.whole c.requires.planes
          c.loop-k.invariant.fetched at
          c.focus.ensures.slice c.focus.ensures.loan c.focus.ensures.rect c.fetch.ensures.loan agrees;
      plane_is = c.fetch.ensures.plane ∙ c.loop-k.invariant.plane_is;
      cells_are = c.fetch.ensures.cells ∙ c.loop-k.invariant.cells_are;
      work = omega (arith, c.fetch.ensures.work, c.loop-k.invariant.work);
      count = c.fetch.ensures.count ∙ ap (λ m. raised m 1) c.loop-k.invariant.count ∙ raised_more _ c.loop-k.k 1;
    }

pub returns : goal.returns
returns g c =
    let last : c.loop-k.k ≡ length (g.B.Base.cells_of c.args.base.now) = omega arith in
    let done = c.loop-k.invariant in
    record {
      slice = done.fetched.slice;
      rect = done.fetched.rect;
      samples = fetched_all (g.B.Base.plane c.args.base.now) (g.B.Base.cells_of c.args.base.now) c.shape-shape.result
          c.args.tile.now c.loop-k.tile c.shape-shape.ensures.cells c.shape-shape.ensures.plane c.requires.whole
          c.requires.planes
          (rw (← last) done.fetched);
      work = done.work ∙ ap (λ n. c.args.work.now + n) last;
      count = done.count ∙ ap (raised (g.B.Base.fetches c.args.base.now)) last;
      plane = done.plane_is;
      cells = done.cells_are;
    }
