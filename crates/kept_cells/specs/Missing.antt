-- The cells that a band of the last plane needs and that aren't held. This is this project's own.
use Rattle.std.specs.Prelude.{ℕ, ◌+◌, List, [], ◌∷◌, length, map}
use Rattle.plane_view.specs.declared.Rect.{Rect}
use Rattle.plane_view.specs.declared.Shape.{Shape}
use Rattle.kept_cells.specs.Tiers.{Tier}
use Rattle.stage_deps.specs.Cells.{meeting, cells_at}
use Rattle.kept_cells.specs.Held.{Held, missing}

-- the rectangles of the plane below that the missing cells of a tier hang on, where these rectangles of it are wanted
abbrev pub needs_of : {S : Type 0} → Held → (S → Shape → Rect → Rect) → ℕ → Tier S → List Rect → List Rect
needs_of held need plane tier wanted =
    map (need tier.stage tier.input) (cells_at tier.cells (missing held plane (meeting tier.cells wanted)))

-- the rectangles that are wanted of the plane below the first tier, whose number is `plane`
abbrev pub wanted_below : {S : Type 0} → Held → (S → Shape → Rect → Rect) → ℕ → List (Tier S) → List Rect → List Rect
wanted_below held need plane [] wanted = wanted
wanted_below held need plane (tier ∷ tiers) wanted =
    needs_of held need (plane + 1) tier (wanted_below held need (plane + 1) tiers wanted)

-- how many cells of the planes above that one are missing
abbrev pub count_of_runs : {S : Type 0} → Held → (S → Shape → Rect → Rect) → ℕ → List (Tier S) → List Rect → ℕ
count_of_runs held need plane [] wanted = 0
count_of_runs held need plane (tier ∷ tiers) wanted =
    length (missing held (plane + 1) (meeting tier.cells (wanted_below held need (plane + 1) tiers wanted)))
    + count_of_runs held need (plane + 1) tiers wanted

-- how many cells of the base are missing
abbrev pub count_of_fetches : {S : Type 0}
    → Held → (S → Shape → Rect → Rect) → List Rect → List (Tier S) → List Rect → ℕ
count_of_fetches held need cells tiers wanted =
    length (missing held 0 (meeting cells (wanted_below held need 0 tiers wanted)))
