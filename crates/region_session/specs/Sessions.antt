-- What contracts see of a session, and of a tally. This is this project's own.
use Rattle.std.specs.Prelude.{ℕ, List, [], ◌∷◌, get_or}
use Rattle.std.specs.List.{sum_by}
use Rattle.plane_view.specs.declared.Rect.{Rect}
use Rattle.plane_view.specs.declared.Shape.{Shape}
use Rattle.plane_view.specs.Plane.{Plane}
use Rattle.stage_core.specs.Stages.{shape_of}
use Rattle.stage_deps.specs.Stamping.{Stamped}
use Rattle.tile_cache.specs.declared.Key.{Key}
use Rattle.kept_cells.specs.Kept.{Kept, holding, keep_of}
use Rattle.kept_cells.specs.Missing.{count_of_fetches, count_of_runs}
use Rattle.kept_cells.specs.Tiers.{Tier, tiers_of}
use Rattle.region_session.specs.declared.tally.Tally.{Tally}

-- the base's plane, its cells and its count of fetches; the stages; the side of the cells of their planes; how many
-- samples may be kept; how many cells were fetched and run since opening, held at the greatest number of 64 bits; the
-- stamp of each plane and the number of changes; the keys that are held with the sizes of their cells, the most recent
-- first
pub record Opened (S : Type 0) : Type 0 where
  pub plane : Plane
  pub cells : List Rect
  pub fetches : ℕ
  pub stages : List S
  pub side : ℕ
  pub budget : ℕ
  pub fetched : ℕ
  pub ran : ℕ
  pub stamps : Stamped
  pub keys : List (Key × ℕ)

-- the keys under the stamps and the limits
abbrev pub list_of : {S : Type 0} → Opened S → Kept
list_of s = record {
  items = s.keys;
  stamps = λ plane. get_or s.stamps.stamps plane 0;
  slots = 65536;
  budget = s.budget;
}

-- the planes of the stages, with their cells
abbrev pub planes_of : {S : Type 0} → (S → Shape → Shape) → Opened S → List (Tier S)
planes_of shaped s = tiers_of shaped s.side (shape_of s.plane) s.stages

-- how many cells of the base's plane a rectangle of the last plane needs that aren't held
abbrev pub missing_fetches : {S : Type 0} → (S → Shape → Shape) → (S → Shape → Rect → Rect) → Opened S → Rect → ℕ
missing_fetches shaped needed s rect =
    count_of_fetches (holding (list_of s)) needed s.cells (planes_of shaped s) (rect ∷ [])

-- how many cells of the stages' planes a rectangle of the last plane needs that aren't held
abbrev pub missing_runs : {S : Type 0} → (S → Shape → Shape) → (S → Shape → Rect → Rect) → Opened S → Rect → ℕ
missing_runs shaped needed s rect = count_of_runs (holding (list_of s)) needed 0 (planes_of shaped s) (rect ∷ [])

-- the keys that are held once this rectangle is made
abbrev pub keys_after : {S : Type 0}
    → (S → Shape → Shape) → (S → Shape → Rect → Rect) → Opened S → Rect → List (Key × ℕ)
keys_after shaped needed s rect =
    (keep_of needed (list_of s) s.plane.planes s.cells (planes_of shaped s) (rect ∷ [])).items

-- how many samples the cells that are held have together
abbrev pub samples_kept : {S : Type 0} → Opened S → ℕ
samples_kept s = sum_by (λ item. item.1) s.keys

-- how many cells a tally's sessions fetched
abbrev pub fetched_of : Tally → ℕ
fetched_of t = t.fetched

-- how many cells a tally's sessions ran
abbrev pub ran_of : Tally → ℕ
ran_of t = t.ran

-- how many samples a tally's sessions kept when they were closed
abbrev pub kept_of : Tally → ℕ
kept_of t = t.kept
