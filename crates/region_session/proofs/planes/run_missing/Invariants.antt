use Rattle.std.proofs.Common.{◌≡◌, ℕ, ◌+◌, ◌++◌, List, take}
use Rattle.std.specs.List.{All}
use Rattle.plane_view.specs.Plane.{Plane}
use Rattle.plane_view.specs.Lent.{AgreesWith}
use Rattle.stage_core.specs.Planes.{IsPlane}
use Rattle.stage_deps.specs.Cells.{cell_at}
use Rattle.stage_deps.specs.Grids.{grid_cells}
use Rattle.plane_view.specs.declared.Rect.{Rect}
use Rattle.kept_cells.specs.Held.{IsRight, TakesOf}
use Rattle.kept_cells.specs.Kept.{put_each, size_of}
use Rattle.kept_cells.proofs.Keeping.{AbsentFrom}
use Rattle.region_session.specs.inner.Parts.{HasCells}
use Rattle.region_session.proofs.planes.run_missing.Given as goal

-- the cells so far are run and put
abbrev pub invariant-loop-k : goal.invariant-loop-k
invariant-loop-k g l =
    let its = g.S.Stage in
    let held = g.C.Cache.held in
    let cells = grid_cells l.grid.shape l.grid.side in
    record {
      rect : l.patch.rect ≡ l.fn.patch.rect;
      planes : l.patch.planes ≡ l.fn.patch.planes;
      marks : g.C.Cache.marks l.cache ≡ g.C.Cache.marks l.fn.cache;
      copied : (P : Plane) (wanted : List Rect) (done : List ℕ) → IsPlane P l.input
          → All (λ (k : ℕ). AgreesWith P l.lower (its.needed l.stage l.input (cell_at cells k))) l.numbers
          → HasCells (its.apply l.stage P) l.fn.patch wanted cells done
          → HasCells (its.apply l.stage P) l.patch wanted cells (done ++ take l.k-index l.numbers);
      right : (P : Plane) → IsPlane P l.input
          → All (λ (k : ℕ). AgreesWith P l.lower (its.needed l.stage l.input (cell_at cells k))) l.numbers
          → IsRight (held l.fn.cache) l.plane (its.apply l.stage P) cells
          → IsRight (held l.cache) l.plane (its.apply l.stage P) cells;
      others : TakesOf (held l.fn.cache) (held l.cache) l.plane;
      kept : g.C.Cache.kept l.cache ≡ put_each (g.C.Cache.kept l.fn.cache) l.plane (size_of cells l.grid.shape.planes)
          (take l.k-index l.numbers);
      absent : AbsentFrom (held l.cache) l.plane l.numbers l.k-index;
      work : l.work ≡ l.fn.work + l.k-index;
    }
