use Rattle.std.proofs.Common.{◌≡◌, ℕ, ◌<◌, List, length, take}
use Rattle.std.specs.List.{All}
use Rattle.plane_view.specs.declared.Rect.{Rect}
use Rattle.plane_view.specs.Plane.{Plane}
use Rattle.stage_deps.specs.Cells.{cells_at}
use Rattle.kept_cells.specs.Held.{IsRight, SameHeld, fresh, missing}
use Rattle.kept_cells.specs.Kept.{brought_each}
use Rattle.region_session.specs.inner.Parts.{HasCells, HasWanted}
use Rattle.region_session.proofs.planes.copy_fresh.Given as goal

-- the cells so far were looked up, and the numbers of those that aren't held are listed
abbrev pub invariant-loop-i : goal.invariant-loop-i
invariant-loop-i g l =
    let held = g.C.Cache.held in
    record {
      rect : l.patch.rect ≡ l.fn.patch.rect;
      planes : l.patch.planes ≡ l.fn.patch.planes;
      same : SameHeld (held l.fn.cache) (held l.cache);
      marks : g.C.Cache.marks l.cache ≡ g.C.Cache.marks l.fn.cache;
      kept : g.C.Cache.kept l.cache ≡ brought_each (g.C.Cache.kept l.fn.cache) l.plane
          (fresh (held l.fn.cache) l.plane (take l.i l.numbers));
      missing : l.rest.items ≡ missing (held l.fn.cache) l.plane (take l.i l.numbers);
      cells : (P : Plane) (wanted cells : List Rect) → HasWanted l.window l.fn.patch.rect wanted
          → P.planes ≡ l.fn.patch.planes → l.rects ≡ cells_at cells l.numbers
          → All (λ (k : ℕ). k < length cells) l.numbers → IsRight (held l.fn.cache) l.plane P cells
          → HasCells P l.patch wanted cells (fresh (held l.fn.cache) l.plane (take l.i l.numbers));
    }
