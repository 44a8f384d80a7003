-- What making a part of the last plane comes to where cells are missing there, once the part of the plane below that
-- these need is made: what that part shows, which held cells are right, what is counted and which keys are kept.
use Rattle.std.proofs.Common.{◌≡◌, ℕ, ◌+◌, List, length, map, sym, ◌∙◌, ap, subst}
use Rattle.std.specs.List.{All}
use Rattle.std.proofs.lemmas.List.Elements.{All-weaker}
use Rattle.plane_view.specs.declared.Rect.{Rect}
use Rattle.plane_view.specs.declared.Shape.{Shape}
use Rattle.plane_view.specs.Plane.{Plane}
use Rattle.plane_view.specs.Rectangles.{LiesIn}
use Rattle.plane_view.specs.Lent.{AgreesWith, Lent}
use Rattle.stage_chain.specs.Chains.{whole_of}
use Rattle.stage_deps.specs.declared.grid.Grid.{Grid}
use Rattle.stage_deps.specs.Cells.{cell_at, cells_at, meeting}
use Rattle.stage_deps.specs.Grids.{grid_cells}
use Rattle.stage_deps.proofs.Coverage.{unmapped}
use Rattle.kept_cells.specs.Held.{AreRight, Held, IsRight, SameHeld, TakesOf, TakesUpTo, fresh, missing}
use Rattle.kept_cells.specs.Kept.{Kept, brought_each, keep, put_each, size_of}
use Rattle.kept_cells.specs.Missing.{count_of_fetches, count_of_runs, needs_of}
use Rattle.kept_cells.specs.Tiers.{Tier, tiers_of}
use Rattle.kept_cells.proofs.Keeping.{keep_same, keep_top}
use Rattle.kept_cells.proofs.Lower.{developed, fetches_same, fetches_top, rights_lower, rights_run, runs_same, runs_top}
use Rattle.region_session.specs.declared.layers.Layer.{Layer}
use Rattle.region_session.specs.inner.Parts.{Shows}
use Rattle.region_session.proofs.Tiering.{IsOnTop, developed_is, tier_on, tiers_length}

-- ---- the part of the plane below

-- it shows the need of each missing cell
needs_shown : (Q : Plane) (L : Lent) (f : Rect → Rect) (cells asked : List Rect) (gone told : List ℕ)
    → asked ≡ map f (cells_at cells gone) → told ≡ gone → All (Shows Q L) asked
    → All (λ k. Shows Q L (f (cell_at cells k))) told
needs_shown Q L f cells asked gone told same_asked same_told shows =
    subst (λ (xs : List ℕ). All (λ k. Shows Q L (f (cell_at cells k))) xs) (sym same_told)
    (unmapped (Shows Q L) f cells gone (subst (λ (xs : List Rect). All (Shows Q L) xs) same_asked shows))

-- as it is lent, the need of each missing cell lies in it
pub needs_lie : (Q : Plane) (L V : Lent) (f : Rect → Rect) (cells asked : List Rect) (gone told : List ℕ) → V ≡ L
    → asked ≡ map f (cells_at cells gone) → told ≡ gone → All (Shows Q L) asked
    → All (λ k. LiesIn (f (cell_at cells k)) V.rect) told
needs_lie Q L V f cells asked gone told same same_asked same_told shows =
    subst (λ (W : Lent). All (λ k. LiesIn (f (cell_at cells k)) W.rect) told) (sym same)
    (All-weaker (λ k. Shows Q L (f (cell_at cells k))) (λ k. LiesIn (f (cell_at cells k)) L.rect) (λ k s. s.lies) told
    (needs_shown Q L f cells asked gone told same_asked same_told shows))

-- and it agrees with the plane there
pub needs_agree : (Q : Plane) (L V : Lent) (f : Rect → Rect) (cells asked : List Rect) (gone told : List ℕ) → V ≡ L
    → asked ≡ map f (cells_at cells gone) → told ≡ gone → All (Shows Q L) asked
    → All (λ k. AgreesWith Q V (f (cell_at cells k))) told
needs_agree Q L V f cells asked gone told same same_asked same_told shows =
    subst (λ (W : Lent). All (λ k. AgreesWith Q W (f (cell_at cells k))) told) (sym same)
    (All-weaker (λ k. Shows Q L (f (cell_at cells k))) (λ k. AgreesWith Q L (f (cell_at cells k))) (λ k s. s.agrees)
    told (needs_shown Q L f cells asked gone told same_asked same_told shows))

-- ---- the cells that are held

-- they are right once the cells below are made
pub rights_below : {S : Type 0} {takes : S → Shape → Type 0} {shaped : S → Shape → Shape} {apply : S → Plane → Plane}
    {start : Shape} {P : Plane} {side : ℕ} {all below : List S} {stage : S} {layers : List Layer} {layer : Layer}
    {grid : Grid} → IsOnTop takes shaped apply start P side all below stage layers layer grid
    → (held opened under : Held) → SameHeld held opened → TakesUpTo opened under (length below)
    → AreRight apply held 0 P (tiers_of shaped side start all)
    → AreRight apply under 0 P (tiers_of shaped side start below)
    → AreRight apply under 0 P (tiers_of shaped side start all)
rights_below {shaped = shaped} {apply = apply} {start = start} {P = P} {side = side} {all = all} {below = below}
    {stage = stage} {layer = layer} {grid = grid} top held opened under same above rights lower =
    rights_lower apply held opened under P (tiers_of shaped side start all) (tiers_of shaped side start below)
    (tier_on stage layer grid) top.tiers same
    (subst (λ (n : ℕ). TakesUpTo opened under n) (sym (tiers_length shaped side start below)) above) rights lower

-- and once those of the last plane are run
pub rights_above : {S : Type 0} {takes : S → Shape → Type 0} {shaped : S → Shape → Shape} {apply : S → Plane → Plane}
    {start : Shape} {P : Plane} {side : ℕ} {all below : List S} {stage : S} {layers : List Layer} {layer : Layer}
    {grid : Grid} → IsOnTop takes shaped apply start P side all below stage layers layer grid
    → (under new : Held) → TakesOf under new (length all)
    → (IsRight under (length all) (apply stage (whole_of apply below P)) (grid_cells grid.shape grid.side)
    → IsRight new (length all) (apply stage (whole_of apply below P)) (grid_cells grid.shape grid.side))
    → AreRight apply under 0 P (tiers_of shaped side start all)
    → AreRight apply new 0 P (tiers_of shaped side start all)
rights_above {shaped = shaped} {apply = apply} {start = start} {P = P} {side = side} {all = all} {below = below}
    {stage = stage} {layer = layer} {grid = grid} top under new others step rights =
    let tiers : List (Tier _) = tiers_of shaped side start below in
    let cells : List Rect = grid_cells grid.shape grid.side in
    let stepped : IsRight under (length all) (apply stage (developed apply tiers P)) cells
    → IsRight new (length all) (apply stage (developed apply tiers P)) cells =
    subst (λ (X : Plane). IsRight under (length all) (apply stage X) cells
    → IsRight new (length all) (apply stage X) cells) (sym (developed_is shaped apply side start below P)) step in
    rights_run apply under new P (tiers_of shaped side start all) tiers (tier_on stage layer grid) (length all)
    top.tiers top.plane others stepped rights

-- ---- what is counted and kept

pub fetches_below : {S : Type 0} {takes : S → Shape → Type 0} {shaped : S → Shape → Shape} {apply : S → Plane → Plane}
    {start : Shape} {P : Plane} {side : ℕ} {all below : List S} {stage : S} {layers : List Layer} {layer : Layer}
    {grid : Grid} → IsOnTop takes shaped apply start P side all below stage layers layer grid
    → (held opened : Held) (need : S → Shape → Rect → Rect) (base_cells wanted asked : List Rect)
    → SameHeld held opened → asked ≡ needs_of held need (length all) (tier_on stage layer grid) wanted
    → count_of_fetches held need base_cells (tiers_of shaped side start all) wanted
    ≡ count_of_fetches opened need base_cells (tiers_of shaped side start below) asked
fetches_below {shaped = shaped} {start = start} {side = side} {all = all} {below = below} {stage = stage}
    {layer = layer} {grid = grid} top held opened need base_cells wanted asked same same_asked =
    let tiers : List (Tier _) = tiers_of shaped side start below in
    fetches_top held need base_cells (tiers_of shaped side start all) tiers (tier_on stage layer grid) wanted
    (length all) top.tiers top.plane
    ∙ ap (λ (xs : List Rect). count_of_fetches held need base_cells tiers xs) (sym same_asked)
    ∙ sym (fetches_same held opened need base_cells tiers asked same.holds)

pub runs_below : {S : Type 0} {takes : S → Shape → Type 0} {shaped : S → Shape → Shape} {apply : S → Plane → Plane}
    {start : Shape} {P : Plane} {side : ℕ} {all below : List S} {stage : S} {layers : List Layer} {layer : Layer}
    {grid : Grid} → IsOnTop takes shaped apply start P side all below stage layers layer grid
    → (held opened : Held) (need : S → Shape → Rect → Rect) (wanted asked : List Rect)
    → SameHeld held opened → asked ≡ needs_of held need (length all) (tier_on stage layer grid) wanted
    → count_of_runs held need 0 (tiers_of shaped side start all) wanted
    ≡ count_of_runs opened need 0 (tiers_of shaped side start below) asked
    + length (missing held (length all) (meeting (grid_cells grid.shape grid.side) wanted))
runs_below {shaped = shaped} {start = start} {side = side} {all = all} {below = below} {stage = stage} {layer = layer}
    {grid = grid} top held opened need wanted asked same same_asked =
    let tiers : List (Tier _) = tiers_of shaped side start below in
    let gone : List ℕ = missing held (length all) (meeting (grid_cells grid.shape grid.side) wanted) in
    runs_top held need (tiers_of shaped side start all) tiers (tier_on stage layer grid) wanted (length all) top.tiers
    top.plane
    ∙ ap (λ n. n + length gone) (ap (λ (xs : List Rect). count_of_runs held need 0 tiers xs) (sym same_asked)
    ∙ sym (runs_same held opened need 0 tiers asked same.holds))

pub kept_below : {S : Type 0} {takes : S → Shape → Type 0} {shaped : S → Shape → Shape} {apply : S → Plane → Plane}
    {start : Shape} {P : Plane} {side : ℕ} {all below : List S} {stage : S} {layers : List Layer} {layer : Layer}
    {grid : Grid} → IsOnTop takes shaped apply start P side all below stage layers layer grid
    → (held opened : Held) (need : S → Shape → Rect → Rect) (K K_opened K_under : Kept) (planes : ℕ)
    (base_cells wanted asked : List Rect)
    → SameHeld held opened → asked ≡ needs_of held need (length all) (tier_on stage layer grid) wanted
    → K_opened ≡ brought_each K (length all)
    (fresh held (length all) (meeting (grid_cells grid.shape grid.side) wanted))
    → K_under ≡ keep opened need K_opened planes base_cells (tiers_of shaped side start below) asked
    → put_each K_under (length all) (size_of (grid_cells grid.shape grid.side) grid.shape.planes)
    (missing held (length all) (meeting (grid_cells grid.shape grid.side) wanted))
    ≡ keep held need K planes base_cells (tiers_of shaped side start all) wanted
kept_below {shaped = shaped} {start = start} {side = side} {all = all} {below = below} {stage = stage} {layer = layer}
    {grid = grid} top held opened need K K_opened K_under planes base_cells wanted asked same same_asked was made =
    let tier : Tier _ = tier_on stage layer grid in
    let tiers : List (Tier _) = tiers_of shaped side start below in
    let needs : List Rect = needs_of held need (length all) tier wanted in
    let first : Kept = brought_each K (length all) (fresh held (length all) (meeting tier.cells wanted)) in
    let lower : K_under ≡ keep held need first planes base_cells tiers needs =
    made
    ∙ keep_same held opened need K_opened planes base_cells tiers asked (λ p k. same.holds p k)
    ∙ ap (λ (rects : List Rect). keep held need K_opened planes base_cells tiers rects) same_asked
    ∙ ap (λ (d : Kept). keep held need d planes base_cells tiers needs) was in
    ap (λ (d : Kept). put_each d (length all) (size_of tier.cells tier.shape.planes)
    (missing held (length all) (meeting tier.cells wanted))) lower
    ∙ sym (keep_top held need K planes base_cells (tiers_of shaped side start all) tiers tier wanted (length all)
    top.tiers top.plane)
