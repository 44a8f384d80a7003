-- What making a part of the last plane comes to where none of the cells that it needs there is missing: none is fetched
-- or run below, and of the keys those of the held cells are brought to the front.
use Rattle.std.proofs.Common.{◌≡◌, ℕ, ◌+◌, List, [], length, map, sym, ◌∙◌, ap}
use Rattle.std.proofs.lemmas.List.{nil_from_length}
use Rattle.plane_view.specs.declared.Rect.{Rect}
use Rattle.plane_view.specs.declared.Shape.{Shape}
use Rattle.plane_view.specs.Plane.{Plane}
use Rattle.stage_deps.specs.declared.grid.Grid.{Grid}
use Rattle.stage_deps.specs.Cells.{cells_at, meeting}
use Rattle.stage_deps.specs.Grids.{grid_cells}
use Rattle.kept_cells.specs.Held.{Held, fresh, missing}
use Rattle.kept_cells.specs.Kept.{Kept, brought_each, keep, put_each, size_of}
use Rattle.kept_cells.specs.Missing.{count_of_fetches, count_of_runs, needs_of}
use Rattle.kept_cells.specs.Tiers.{Tier, tiers_of}
use Rattle.kept_cells.proofs.Keeping.{keep_top}
use Rattle.kept_cells.proofs.Lower.{fetches_top, runs_top}
use Rattle.region_session.specs.declared.layers.Layer.{Layer}
use Rattle.region_session.proofs.Tiering.{IsOnTop, fetches_none, keep_none, runs_none, tier_on}

-- no number is missing where the list of them is empty
pub none_of : {X : Type 0} (xs gone : List X) → xs ≡ gone → length xs ≡ 0 → gone ≡ []
none_of xs gone same none = sym same ∙ nil_from_length xs none

-- nothing is needed of the plane below
no_needs : {S : Type 0} (held : Held) (need : S → Shape → Rect → Rect) (plane : ℕ) (tier : Tier S) (wanted : List Rect)
    → missing held plane (meeting tier.cells wanted) ≡ [] → needs_of held need plane tier wanted ≡ []
no_needs held need plane tier wanted none =
    ap (λ (xs : List ℕ). map (need tier.stage tier.input) (cells_at tier.cells xs)) none

pub no_fetches : {S : Type 0} {takes : S → Shape → Type 0} {shaped : S → Shape → Shape} {apply : S → Plane → Plane}
    {start : Shape} {P : Plane} {side : ℕ} {all below : List S} {stage : S} {layers : List Layer} {layer : Layer}
    {grid : Grid} → IsOnTop takes shaped apply start P side all below stage layers layer grid
    → (held : Held) (need : S → Shape → Rect → Rect) (base_cells wanted : List Rect)
    → missing held (length all) (meeting (grid_cells grid.shape grid.side) wanted) ≡ []
    → count_of_fetches held need base_cells (tiers_of shaped side start all) wanted ≡ 0
no_fetches {shaped = shaped} {start = start} {side = side} {all = all} {below = below} {stage = stage} {layer = layer}
    {grid = grid} top held need base_cells wanted none =
    let tier : Tier _ = tier_on stage layer grid in
    let tiers : List (Tier _) = tiers_of shaped side start below in
    fetches_top held need base_cells (tiers_of shaped side start all) tiers tier wanted (length all) top.tiers top.plane
    ∙ ap (λ (xs : List Rect). count_of_fetches held need base_cells tiers xs)
    (no_needs held need (length all) tier wanted none)
    ∙ fetches_none held need base_cells tiers

pub no_runs : {S : Type 0} {takes : S → Shape → Type 0} {shaped : S → Shape → Shape} {apply : S → Plane → Plane}
    {start : Shape} {P : Plane} {side : ℕ} {all below : List S} {stage : S} {layers : List Layer} {layer : Layer}
    {grid : Grid} → IsOnTop takes shaped apply start P side all below stage layers layer grid
    → (held : Held) (need : S → Shape → Rect → Rect) (wanted : List Rect)
    → missing held (length all) (meeting (grid_cells grid.shape grid.side) wanted) ≡ []
    → count_of_runs held need 0 (tiers_of shaped side start all) wanted ≡ 0
no_runs {shaped = shaped} {start = start} {side = side} {all = all} {below = below} {stage = stage} {layer = layer}
    {grid = grid} top held need wanted none =
    let tier : Tier _ = tier_on stage layer grid in
    let tiers : List (Tier _) = tiers_of shaped side start below in
    let gone : List ℕ = missing held (length all) (meeting tier.cells wanted) in
    runs_top held need (tiers_of shaped side start all) tiers tier wanted (length all) top.tiers top.plane
    ∙ ap (λ (xs : List Rect). count_of_runs held need 0 tiers xs + length gone)
    (no_needs held need (length all) tier wanted none)
    ∙ ap (λ (xs : List ℕ). count_of_runs held need 0 tiers [] + length xs) none
    ∙ ap (λ n. n + 0) (runs_none held need 0 tiers)

pub kept_fresh : {S : Type 0} {takes : S → Shape → Type 0} {shaped : S → Shape → Shape} {apply : S → Plane → Plane}
    {start : Shape} {P : Plane} {side : ℕ} {all below : List S} {stage : S} {layers : List Layer} {layer : Layer}
    {grid : Grid} → IsOnTop takes shaped apply start P side all below stage layers layer grid
    → (held : Held) (need : S → Shape → Rect → Rect) (K : Kept) (planes : ℕ) (base_cells wanted : List Rect)
    → missing held (length all) (meeting (grid_cells grid.shape grid.side) wanted) ≡ []
    → keep held need K planes base_cells (tiers_of shaped side start all) wanted
    ≡ brought_each K (length all) (fresh held (length all) (meeting (grid_cells grid.shape grid.side) wanted))
kept_fresh {shaped = shaped} {start = start} {side = side} {all = all} {below = below} {stage = stage} {layer = layer}
    {grid = grid} top held need K planes base_cells wanted none =
    let tier : Tier _ = tier_on stage layer grid in
    let tiers : List (Tier _) = tiers_of shaped side start below in
    let first : Kept = brought_each K (length all) (fresh held (length all) (meeting tier.cells wanted)) in
    keep_top held need K planes base_cells (tiers_of shaped side start all) tiers tier wanted (length all) top.tiers
    top.plane
    ∙ ap (λ (xs : List ℕ). put_each
    (keep held need first planes base_cells tiers (needs_of held need (length all) tier wanted)) (length all)
    (size_of tier.cells tier.shape.planes) xs) none
    ∙ ap (λ (xs : List Rect). keep held need first planes base_cells tiers xs)
    (no_needs held need (length all) tier wanted none)
    ∙ keep_none held need first planes base_cells tiers
