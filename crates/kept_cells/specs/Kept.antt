-- The list of the keys that a cache holds, and what a band of the last plane leaves of it. This is this project's own.
use Rattle.std.specs.Prelude.{ℕ, ◌+◌, ◌*◌, List, [], ◌∷◌, Bool, is_some}
use Rattle.std.specs.Map.{lookup}
use Rattle.lru.specs.LruCache.{promoted}
use Rattle.tile_cache.specs.declared.Key.{Key}
use Rattle.tile_cache.specs.Cache.{same_key}
use Rattle.tile_cache.specs.Kept.{put_in}
use Rattle.plane_view.specs.declared.Rect.{Rect}
use Rattle.plane_view.specs.declared.Shape.{Shape}
use Rattle.plane_view.specs.Rectangles.{area_of}
use Rattle.kept_cells.specs.Tiers.{Tier}
use Rattle.stage_deps.specs.Cells.{meeting, cell_at}
use Rattle.kept_cells.specs.Held.{Held, fresh, missing}
use Rattle.kept_cells.specs.Missing.{wanted_below}

-- the keys with the sizes of their cells in samples, the most recent first; the present stamp of each plane; how many
-- keys and how many samples there may be
pub record Kept : Type 0 where
  pub items : List (Key × ℕ)
  pub stamps : ℕ → ℕ
  pub slots : ℕ
  pub budget : ℕ

-- what looking up and putting change in no case: the present stamps with the number of changes, and the limits
pub record Marks : Type 0 where
  pub stamps : List ℕ
  pub changes : ℕ
  pub slots : ℕ
  pub budget : ℕ

-- the key of a cell of a plane at the present stamp
abbrev pub key_at : Kept → ℕ → ℕ → Key
key_at c plane k = record { stage = plane; cell = k; stamp = c.stamps plane }

-- whether the key of a cell at the present stamp of its plane is there
abbrev pub is_kept : Kept → ℕ → ℕ → Bool
is_kept c plane k = is_some (lookup (same_key (key_at c plane k)) c.items)

-- the key comes first
abbrev pub brought : Kept → ℕ → ℕ → Kept
brought c plane k = record c { items = promoted (same_key (key_at c plane k)) c.items }

-- keys go from the end until there is room, and the key comes in front; one of a size above the budget changes nothing
abbrev pub put_key : Kept → ℕ → ℕ → ℕ → Kept
put_key c plane k n = record c { items = put_in (λ item. item.1) c.slots c.budget (key_at c plane k, n) c.items }

-- the keys of these cells of a plane come first, one after the other
abbrev pub brought_each : Kept → ℕ → List ℕ → Kept
brought_each c plane [] = c
brought_each c plane (k ∷ ks) = brought_each (brought c plane k) plane ks

-- the keys of these cells of a plane are put, one after the other, each with its size
abbrev pub put_each : Kept → ℕ → (ℕ → ℕ) → List ℕ → Kept
put_each c plane size [] = c
put_each c plane size (k ∷ ks) = put_each (put_key c plane k (size k)) plane size ks

-- the samples of cell k
abbrev pub size_of : List Rect → ℕ → ℕ → ℕ
size_of cells planes k = area_of (cell_at cells k) * planes

-- the fresh needed keys of the planes above that one come to the front, from the last plane down
abbrev pub brought_above : {S : Type 0} → Held → (S → Shape → Rect → Rect) → Kept → ℕ → List (Tier S) → List Rect → Kept
brought_above held need c plane [] wanted = c
brought_above held need c plane (tier ∷ tiers) wanted =
    brought_each (brought_above held need c (plane + 1) tiers wanted) (plane + 1)
    (fresh held (plane + 1) (meeting tier.cells (wanted_below held need (plane + 1) tiers wanted)))

-- the missing keys of the planes above that one are put, up to the last plane
abbrev pub put_above : {S : Type 0} → Held → (S → Shape → Rect → Rect) → Kept → ℕ → List (Tier S) → List Rect → Kept
put_above held need c plane [] wanted = c
put_above held need c plane (tier ∷ tiers) wanted =
    put_above held need
    (put_each c (plane + 1) (size_of tier.cells tier.shape.planes)
    (missing held (plane + 1) (meeting tier.cells (wanted_below held need (plane + 1) tiers wanted))))
    (plane + 1) tiers wanted

-- at the base's plane: the fresh keys come to the front, and then the missing ones are put
abbrev pub keep_base : Held → Kept → ℕ → List Rect → List Rect → Kept
keep_base held c planes cells wanted =
    put_each (brought_each c 0 (fresh held 0 (meeting cells wanted))) 0 (size_of cells planes)
    (missing held 0 (meeting cells wanted))

-- what a band leaves: the fresh needed keys come to the front from the last plane down to plane 0, then the missing
-- ones are put from plane 0 up
abbrev pub keep : {S : Type 0}
    → Held → (S → Shape → Rect → Rect) → Kept → ℕ → List Rect → List (Tier S) → List Rect → Kept
keep held need c planes cells tiers wanted =
    put_above held need
    (keep_base held (brought_above held need c 0 tiers wanted) planes cells (wanted_below held need 0 tiers wanted))
    0 tiers wanted

-- the cells whose keys are in a list, for which samples don't matter
abbrev pub holding : Kept → Held
holding c = record { holds = is_kept c; samples = λ plane k. [] }

-- the same by the list alone: a key is fresh where it is in the list at its plane's present stamp
abbrev pub keep_of : {S : Type 0} → (S → Shape → Rect → Rect) → Kept → ℕ → List Rect → List (Tier S) → List Rect → Kept
keep_of need c planes cells tiers wanted = keep (holding c) need c planes cells tiers wanted
