-- Definitions for the contracts between functions of this crate: how the fields of a session hang together. This is
-- this project's own.
use Rattle.std.specs.Prelude.{◌≡◌, ℕ, ◌+◌, ◌^◌, ◌≤◌, List, length}
use Rattle.plane_view.specs.declared.Rect.{Rect}
use Rattle.plane_view.specs.declared.Shape.{Shape}
use Rattle.plane_view.specs.Plane.{Plane}
use Rattle.stage_core.specs.Stages.{shape_of}
use Rattle.kept_cells.specs.declared.tiles.Tiles.{Tiles}
use Rattle.kept_cells.specs.Held.{AreRight, IsRight}
use Rattle.kept_cells.specs.Tiers.{tiers_of}
use Rattle.kept_cells.specs.Tiling.{held_in}
use Rattle.region_session.specs.declared.layers.Layer.{Layer}
use Rattle.region_session.specs.inner.Layers.{AreLayers}

-- there is a layer for each stage, and each cell that is held is the crop of its plane under the present stages
pub record AreSound {S : Type 0} (takes : S → Shape → Type 0) (shaped : S → Shape → Shape) (apply : S → Plane → Plane)
    (P : Plane) (base_cells cells : List Rect) (stages : List S) (layers : List Layer) (needs side : ℕ)
    (tiles : Tiles) : Type 0 where
  pub same : cells ≡ base_cells
  pub stand : AreLayers takes shaped (shape_of P) stages layers
  pub some : 1 ≤ length stages
  pub few : length stages ≤ 64
  pub room : needs ≡ length stages + 1
  pub least : 16 ≤ side
  pub most : side ≤ 512
  pub stamped : length tiles.stamps.stamps ≡ length stages + 1
  pub slots : tiles.cells.slots ≡ 65536
  pub small : tiles.cells.budget ≤ 2 ^ 30
  pub base_right : IsRight (held_in tiles.cells tiles.stamps.stamps) 0 P base_cells
  pub right : AreRight apply (held_in tiles.cells tiles.stamps.stamps) 0 P (tiers_of shaped side (shape_of P) stages)
