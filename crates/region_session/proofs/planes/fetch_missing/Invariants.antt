use Rattle.std.proofs.Common.{◌≡◌, ℕ, ◌+◌, ◌++◌, List, take}
use Rattle.stage_core.specs.Bases.{raised}
use Rattle.plane_view.specs.declared.Rect.{Rect}
use Rattle.kept_cells.specs.Held.{IsRight, TakesOf}
use Rattle.kept_cells.specs.Kept.{put_each, size_of}
use Rattle.kept_cells.proofs.Keeping.{AbsentFrom}
use Rattle.region_session.specs.inner.Parts.{HasCells}
use Rattle.region_session.proofs.planes.fetch_missing.Given as goal

-- the cells so far are fetched, counted and put
abbrev pub invariant-loop-k : goal.invariant-loop-k
invariant-loop-k g l =
    let its = g.B.Base in
    let held = g.C.Cache.held in
    let cells = its.cells_of l.fn.base in
    let P = its.plane l.fn.base in
    record {
      rect : l.patch.rect ≡ l.fn.patch.rect;
      planes : l.patch.planes ≡ l.fn.patch.planes;
      marks : g.C.Cache.marks l.cache ≡ g.C.Cache.marks l.fn.cache;
      copied : (wanted : List Rect) (done : List ℕ) → HasCells P l.fn.patch wanted cells done
          → HasCells P l.patch wanted cells (done ++ take l.k-index l.numbers);
      right : IsRight (held l.fn.cache) 0 P cells → IsRight (held l.cache) 0 P cells;
      others : TakesOf (held l.fn.cache) (held l.cache) 0;
      kept : g.C.Cache.kept l.cache ≡ put_each (g.C.Cache.kept l.fn.cache) 0 (size_of cells P.planes)
          (take l.k-index l.numbers);
      absent : AbsentFrom (held l.cache) 0 l.numbers l.k-index;
      work : l.work ≡ l.fn.work + l.k-index;
      count : its.fetches l.base ≡ raised (its.fetches l.fn.base) l.k-index;
      plane : its.plane l.base ≡ its.plane l.fn.base;
      base_cells : its.cells_of l.base ≡ its.cells_of l.fn.base;
    }
