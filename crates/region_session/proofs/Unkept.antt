-- Under a budget of nothing no key is ever held.
use Rattle.std.proofs.Common.{◌≡◌, ℕ, ◌+◌, ◌*◌, ◌<◌, ◌≤◌, List, [], ◌∷◌, length, Bool, false, cond, nat_le, refl, sym}
use Rattle.std.proofs.Common.{◌∙◌, ap, subst, arith}
use Rattle.std.specs.List.{All}
use Rattle.std.proofs.Math.Nat.{le-mul_of_pos_right}
use Rattle.std.proofs.lemmas.Bool.{lt-leb}
use Rattle.std.proofs.lemmas.List.Elements.{All-head, All-tail, All-weaker}
use Rattle.std.proofs.lemmas.Option.{slice_get-get_or}
use Rattle.tile_cache.specs.declared.Key.{Key}
use Rattle.tile_cache.specs.Kept.{kept}
use Rattle.plane_view.specs.declared.Rect.{Rect}
use Rattle.plane_view.specs.declared.Shape.{Shape}
use Rattle.plane_view.specs.Rectangles.{height, width}
use Rattle.plane_view.specs.Shapes.{IsShape}
use Rattle.stage_core.specs.Bases.{MakeUp}
use Rattle.stage_core.specs.Planes.{IsPart}
use Rattle.stage_deps.specs.Cells.{cell_at, meeting, no_rect}
use Rattle.stage_deps.specs.Grids.{grid_cells}
use Rattle.stage_deps.proofs.GridCells.{grid_makes_up}
use Rattle.kept_cells.specs.Held.{Held, fresh, missing}
use Rattle.kept_cells.specs.Kept.{Kept, brought, brought_above, brought_each, keep, keep_base, key_at, put_above}
use Rattle.kept_cells.specs.Kept.{put_each, put_key, size_of}
use Rattle.kept_cells.specs.Missing.{wanted_below}
use Rattle.kept_cells.specs.Tiers.{Tier, tiers_of}
use Rattle.kept_cells.proofs.Lower.{missing_bounds}
use Rattle.region_session.specs.declared.layers.Layer.{Layer}
use Rattle.region_session.specs.inner.Layers.{AreLayers}

-- the list is empty, and stays so
pub record IsUnkept (c : Kept) : Type 0 where
  pub none : c.items ≡ []
  pub zero : c.budget ≡ 0

-- each cell has a sample
abbrev pub HaveSamples : (ℕ → ℕ) → ℕ → Type 0
HaveSamples size count = (k : ℕ) → k < count → 1 ≤ size k

abbrev pub TiersHaveSamples : {S : Type 0} → List (Tier S) → Type 0
TiersHaveSamples [] = Unit {0}
TiersHaveSamples (tier ∷ tiers) = HaveSamples (size_of tier.cells tier.shape.planes) (length tier.cells)
    × TiersHaveSamples tiers

put_unkept : (c : Kept) (plane k n : ℕ) → IsUnkept c → 1 ≤ n → put_key c plane k n ≡ c
put_unkept c plane k n is some =
    let test : nat_le n c.budget ≡ false = ap (nat_le n) is.zero ∙ lt-leb n 0 some in
    ap (λ (b : Bool). record c {
      items = cond b ((key_at c plane k, n) ∷ kept (λ (item : Key × ℕ). item.1) c.slots
          c.budget n c.items) c.items;
    }) test

brought_unkept : (c : Kept) (plane k : ℕ) → IsUnkept c → brought c plane k ≡ c
brought_unkept c plane k is =
    let same : (brought c plane k).items ≡ c.items =
    subst (λ (items : List (Key × ℕ)). (brought (record c { items = items }) plane k).items ≡ items) (sym is.none)
    refl in
    ap (λ (items : List (Key × ℕ)). record c { items = items }) same

put_each_unkept : (c : Kept) (plane : ℕ) (size : ℕ → ℕ) (numbers : List ℕ) → IsUnkept c → All (λ k. 1 ≤ size k) numbers
    → put_each c plane size numbers ≡ c
put_each_unkept c plane size [] is some = refl
put_each_unkept c plane size (k ∷ ks) is some =
    ap (λ (d : Kept). put_each d plane size ks)
    (put_unkept c plane k (size k) is (All-head (λ (n : ℕ). 1 ≤ size n) k ks some))
    ∙ put_each_unkept c plane size ks is (All-tail (λ (n : ℕ). 1 ≤ size n) k ks some)

brought_each_unkept : (c : Kept) (plane : ℕ) (numbers : List ℕ) → IsUnkept c → brought_each c plane numbers ≡ c
brought_each_unkept c plane [] is = refl
brought_each_unkept c plane (k ∷ ks) is = ap (λ (d : Kept). brought_each d plane ks) (brought_unkept c plane k is)
    ∙ brought_each_unkept c plane ks is

brought_above_unkept : {S : Type 0} (held : Held) (need : S → Shape → Rect → Rect) (c : Kept) (plane : ℕ)
    (tiers : List (Tier S)) (wanted : List Rect) → IsUnkept c → brought_above held need c plane tiers wanted ≡ c
brought_above_unkept held need c plane [] wanted is = refl
brought_above_unkept held need c plane (tier ∷ tiers) wanted is =
    let numbers = fresh held (plane + 1) (meeting tier.cells (wanted_below held need (plane + 1) tiers wanted)) in
    ap (λ (d : Kept). brought_each d (plane + 1) numbers) (brought_above_unkept held need c (plane + 1) tiers wanted is)
    ∙ brought_each_unkept c (plane + 1) numbers is

-- missing cells have samples
some_missing : (held : Held) (plane planes : ℕ) (cells wanted : List Rect)
    → HaveSamples (size_of cells planes) (length cells)
    → All (λ k. 1 ≤ size_of cells planes k) (missing held plane (meeting cells wanted))
some_missing held plane planes cells wanted some =
    All-weaker (λ k. k < length cells) (λ k. 1 ≤ size_of cells planes k) some
    (missing held plane (meeting cells wanted)) (missing_bounds held plane cells wanted)

put_above_unkept : {S : Type 0} (held : Held) (need : S → Shape → Rect → Rect) (c : Kept) (plane : ℕ)
    (tiers : List (Tier S)) (wanted : List Rect) → IsUnkept c → TiersHaveSamples tiers
    → put_above held need c plane tiers wanted ≡ c
put_above_unkept held need c plane [] wanted is some = refl
put_above_unkept held need c plane (tier ∷ tiers) wanted is some =
    let below : List Rect = wanted_below held need (plane + 1) tiers wanted in
    ap (λ (d : Kept). put_above held need d (plane + 1) tiers wanted)
    (put_each_unkept c (plane + 1) (size_of tier.cells tier.shape.planes)
    (missing held (plane + 1) (meeting tier.cells below)) is
    (some_missing held (plane + 1) tier.shape.planes tier.cells below some.0))
    ∙ put_above_unkept held need c (plane + 1) tiers wanted is some.1

pub keep_unkept : {S : Type 0} (held : Held) (need : S → Shape → Rect → Rect) (c : Kept) (planes : ℕ)
    (cells : List Rect) (tiers : List (Tier S)) (wanted : List Rect)
    → IsUnkept c → HaveSamples (size_of cells planes) (length cells) → TiersHaveSamples tiers
    → keep held need c planes cells tiers wanted ≡ c
keep_unkept held need c planes cells tiers wanted is some some_above =
    let below : List Rect = wanted_below held need 0 tiers wanted in
    ap (λ (d : Kept). put_above held need (keep_base held d planes cells below) 0 tiers wanted)
    (brought_above_unkept held need c 0 tiers wanted is)
    ∙ ap (λ (d : Kept). put_above held need (put_each d 0 (size_of cells planes) (missing held 0 (meeting cells below)))
    0 tiers wanted) (brought_each_unkept c 0 (fresh held 0 (meeting cells below)) is)
    ∙ ap (λ (d : Kept). put_above held need d 0 tiers wanted)
    (put_each_unkept c 0 (size_of cells planes) (missing held 0 (meeting cells below)) is
    (some_missing held 0 planes cells below some))
    ∙ put_above_unkept held need c 0 tiers wanted is some_above

-- cells that make up a plane have samples
pub cells_have_samples : (shape : Shape) (cells : List Rect) → MakeUp cells shape → IsShape shape
    → HaveSamples (size_of cells shape.planes) (length cells)
cells_have_samples shape cells up is = λ k below.
    let cell : Rect = cell_at cells k in
    let part : IsPart cell shape = up.part k cell (slice_get-get_or cells k no_rect below) in
    let rows = part.some.rows in
    let cols = part.some.cols in
    let h : ℕ = height cell in
    let w : ℕ = width cell in
    let tall : 1 ≤ h = omega (arith, rows) in
    let wide : 0 < w = omega (arith, cols) in
    let area : h ≤ h * w = le-mul_of_pos_right h wide in
    let planes : 0 < shape.planes = omega (arith, is.some_planes) in
    let all : h * w ≤ h * w * shape.planes = le-mul_of_pos_right (h * w) planes in
    omega (arith, tall, area, all)

pub tiers_have_samples : {S : Type 0} (takes : S → Shape → Type 0) (shaped : S → Shape → Shape)
    → ((s : S) (t : Shape) → IsShape t → takes s t → IsShape (shaped s t))
    → (side : ℕ) → 0 < side → (input : Shape) (stages : List S) (layers : List Layer)
    → AreLayers takes shaped input stages layers → IsShape input
    → TiersHaveSamples (tiers_of shaped side input stages)
tiers_have_samples takes shaped shapes side some input [] layers are is = tt
tiers_have_samples takes shaped shapes side some input (stage ∷ stages) [] are is = absurd are
tiers_have_samples takes shaped shapes side some input (stage ∷ stages) (layer ∷ layers) are is =
    let made : IsShape (shaped stage input) =
    shapes stage input is (subst (λ (t : Shape). takes stage t) are.0 are.1.taken) in (
      cells_have_samples (shaped stage input) (grid_cells (shaped stage input) side)
          (grid_makes_up (shaped stage input) side some) made,
      tiers_have_samples takes shaped shapes side some (shaped stage input) stages layers are.2 made,
    )
