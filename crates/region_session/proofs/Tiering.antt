-- Tiers of stages with layers, and the tier on top.
use Rattle.std.proofs.Common.{◌≡◌, ℕ, ◌+◌, List, [], ◌∷◌, ◌++◌, length, map, refl, sym, ◌∙◌, ap, subst, arith}
use Rattle.plane_view.specs.declared.Rect.{Rect}
use Rattle.plane_view.specs.declared.Shape.{Shape}
use Rattle.plane_view.specs.Plane.{Plane}
use Rattle.plane_view.specs.Shapes.{IsShape}
use Rattle.stage_core.specs.Planes.{IsPlane}
use Rattle.stage_core.specs.Stages.{shape_of}
use Rattle.stage_core.proofs.Formulas.{shape_is}
use Rattle.stage_chain.specs.Chains.{whole_of}
use Rattle.stage_deps.specs.declared.grid.Grid.{Grid}
use Rattle.stage_deps.specs.Cells.{cells_at, meeting, meeting_from}
use Rattle.stage_deps.specs.Grids.{grid_cells}
use Rattle.kept_cells.specs.Held.{AreRight, HasSizes, Held, IsRight, fresh, missing}
use Rattle.kept_cells.specs.Kept.{Kept, brought_above, brought_each, keep, keep_base, put_above, put_each, size_of}
use Rattle.kept_cells.specs.Missing.{count_of_fetches, count_of_runs, needs_of, wanted_below}
use Rattle.kept_cells.specs.Tiers.{Tier, tier_of, tiers_of}
use Rattle.kept_cells.proofs.Lower.{developed, sizes_from, top_kept}
use Rattle.region_session.specs.declared.layers.Layer.{Layer}
use Rattle.region_session.specs.inner.Layers.{AreLayers}
use Rattle.region_session.specs.Stacks.{last_shape}
use Rattle.region_session.proofs.Top.{shape_top, top_of, whole_top}

tiers_last : {S : Type 0} (shaped : S → Shape → Shape) (side : ℕ) (input : Shape) (stages : List S) (stage : S)
    → tiers_of shaped side input (stages ++ stage ∷ []) ≡ tiers_of shaped side input stages
    ++ tier_of shaped side (last_shape shaped input stages) stage ∷ []
tiers_last shaped side input [] stage = refl
tiers_last shaped side input (first ∷ stages) stage =
    ap (λ (tiers : List (Tier _)). tier_of shaped side input first ∷ tiers)
    (tiers_last shaped side (shaped first input) stages stage)

-- there are as many tiers as stages
pub tiers_length : {S : Type 0} (shaped : S → Shape → Shape) (side : ℕ) (input : Shape) (stages : List S)
    → length (tiers_of shaped side input stages) ≡ length stages
tiers_length shaped side input [] = refl
tiers_length shaped side input (stage ∷ stages) =
    let rest = tiers_length shaped side (shaped stage input) stages in
    omega (arith, rest)

-- what tiers develop is what their stages make
pub developed_is : {S : Type 0} (shaped : S → Shape → Shape) (apply : S → Plane → Plane) (side : ℕ) (input : Shape)
    (stages : List S) (P : Plane) → developed apply (tiers_of shaped side input stages) P ≡ whole_of apply stages P
developed_is shaped apply side input [] P = refl
developed_is shaped apply side input (stage ∷ stages) P = developed_is shaped apply side (shaped stage input) stages
    (apply stage P)

-- what stages with layers make is whole
pub whole_is : {S : Type 0} (takes : S → Shape → Type 0) (shaped : S → Shape → Shape) (apply : S → Plane → Plane)
    → ((s : S) (t : Shape) → IsShape t → takes s t → IsShape (shaped s t))
    → ((s : S) (t : Shape) (Q : Plane) → IsShape t → takes s t → IsPlane Q t → IsPlane (apply s Q) (shaped s t))
    → (input : Shape) (stages : List S) (layers : List Layer) (P : Plane) → AreLayers takes shaped input stages layers
    → IsShape input → IsPlane P input → IsPlane (whole_of apply stages P) (last_shape shaped input stages)
whole_is takes shaped apply shapes planes input [] layers P are is is_P = is_P
whole_is takes shaped apply shapes planes input (stage ∷ stages) [] P are is is_P = absurd are
whole_is takes shaped apply shapes planes input (stage ∷ stages) (layer ∷ layers) P are is is_P =
    let taken : takes stage input = subst (λ (t : Shape). takes stage t) are.0 are.1.taken in
    whole_is takes shaped apply shapes planes (shaped stage input) stages layers (apply stage P) are.2
    (shapes stage input is taken) (planes stage input P is taken is_P)

-- the tier of a stage over a layer's input, with the cells of a grid
abbrev pub tier_on : {S : Type 0} → S → Layer → Grid → Tier S
tier_on stage layer grid = record {
  stage = stage;
  input = layer.input;
  shape = grid.shape;
  cells = grid_cells grid.shape grid.side;
}

-- what is known of the stage on top, its layer and its tier
pub record IsOnTop {S : Type 0} (takes : S → Shape → Type 0) (shaped : S → Shape → Shape) (apply : S → Plane → Plane)
    (start : Shape) (P : Plane) (side : ℕ) (all others : List S) (stage : S) (layers : List Layer) (layer : Layer)
    (on : Grid) : Type 0 where
  pub tiers : tiers_of shaped side start all ≡ tiers_of shaped side start others ++ tier_on stage layer on ∷ []
  pub plane : length all ≡ length (tiers_of shaped side start others) + 1
  pub below : AreLayers takes shaped start others layers
  pub input : IsShape layer.input
  pub taken : takes stage layer.input
  pub grid : on.shape ≡ shaped stage layer.input
  pub last : last_shape shaped start all ≡ on.shape
  pub low : layer.input ≡ last_shape shaped start others
  pub lower : IsPlane (whole_of apply others P) layer.input
  pub own : IsPlane (apply stage (whole_of apply others P)) on.shape
  pub whole : whole_of apply all P ≡ apply stage (whole_of apply others P)

pub on_top : {S : Type 0} (takes : S → Shape → Type 0) (shaped : S → Shape → Shape) (apply : S → Plane → Plane)
    → ((s : S) (t : Shape) → IsShape t → takes s t → IsShape (shaped s t))
    → ((s : S) (t : Shape) (Q : Plane) → IsShape t → takes s t → IsPlane Q t → IsPlane (apply s Q) (shaped s t))
    → (P : Plane) (told : Shape) → IsShape told → IsPlane P told
    → (side : ℕ) (all below : List S) (stage : S) (all_layers lower : List Layer) (layer : Layer) (grid : Grid)
    → all ≡ below ++ stage ∷ [] → length all ≡ length below + 1 → all_layers ≡ lower ++ layer ∷ []
    → AreLayers takes shaped (shape_of P) all all_layers → grid.shape ≡ layer.shape → grid.side ≡ side
    → IsOnTop takes shaped apply (shape_of P) P side all below stage lower layer grid
on_top takes shaped apply shapes planes P told is_told is_P_told side all below stage all_layers lower layer grid split
    long split_layers are same same_side =
    let input : Shape = shape_of P in
    let same_input : input ≡ told = shape_is P told is_P_told in
    let is : IsShape input = subst IsShape (sym same_input) is_told in
    let is_P : IsPlane P input = subst (λ (t : Shape). IsPlane P t) (sym same_input) is_P_told in
    let top = top_of takes shaped input all below stage all_layers lower layer split split_layers are in
    let low : layer.input ≡ last_shape shaped input below = top.stands in
    let made : grid.shape ≡ shaped stage layer.input = same ∙ top.is.shape in
    let tier : tier_of shaped side (last_shape shaped input below) stage ≡ tier_on stage layer grid =
    ap (λ (t : Shape). tier_of shaped side t stage) (sym low)
    ∙ ap (λ (t : Shape). record { stage = stage; input = layer.input; shape = t; cells = grid_cells t side }) (sym made)
    ∙ ap (λ (n : ℕ). record { stage = stage; input = layer.input; shape = grid.shape; cells = grid_cells grid.shape n })
    (sym same_side) in
    let lowest : IsPlane (whole_of apply below P) layer.input =
    subst (λ (t : Shape). IsPlane (whole_of apply below P) t) (sym low)
    (whole_is takes shaped apply shapes planes input below lower P top.below is is_P) in
    record {
      tiers = ap (λ (xs : List _). tiers_of shaped side input xs) split ∙ tiers_last shaped side input below stage
          ∙ ap (λ (x : Tier _). tiers_of shaped side input below ++ x ∷ []) tier;
      plane = long ∙ ap (λ n. n + 1) (sym (tiers_length shaped side input below));
      below = top.below;
      input = top.is.input;
      taken = top.is.taken;
      grid = made;
      last = shape_top shaped input all below stage split ∙ ap (shaped stage) (sym low) ∙ sym made;
      low = low;
      lower = lowest;
      own = subst (λ (t : Shape). IsPlane (apply stage (whole_of apply below P)) t) (sym made)
          (planes stage layer.input (whole_of apply below P) top.is.input top.is.taken lowest);
      whole = whole_top apply all below stage P split;
    }

-- what is held of the tier on top, and of those below
pub record IsHeldOnTop {S : Type 0} (shaped : S → Shape → Shape) (apply : S → Plane → Plane) (held : Held)
    (input : Shape) (P : Plane) (side : ℕ) (all below : List S) (stage : S) (grid : Grid) : Type 0 where
  pub right : IsRight held (length all) (apply stage (whole_of apply below P)) (grid_cells grid.shape grid.side)
  pub rights : AreRight apply held 0 P (tiers_of shaped side input below)
  pub sizes : HasSizes held (length all) grid.shape.planes (grid_cells grid.shape grid.side)

pub held_on_top : {S : Type 0} (takes : S → Shape → Type 0) (shaped : S → Shape → Shape) (apply : S → Plane → Plane)
    (held : Held) (input : Shape) (P : Plane) (side : ℕ) (all below : List S) (stage : S) (lower : List Layer)
    (layer : Layer) (grid : Grid)
    → IsOnTop takes shaped apply input P side all below stage lower layer grid
    → AreRight apply held 0 P (tiers_of shaped side input all)
    → IsHeldOnTop shaped apply held input P side all below stage grid
held_on_top takes shaped apply held input P side all below stage lower layer grid top rights =
    let were = top_kept apply held P (tiers_of shaped side input all) (tiers_of shaped side input below)
    (tier_on stage layer grid) (length all) top.tiers top.plane rights in
    let cells : List Rect = grid_cells grid.shape grid.side in
    let right : IsRight held (length all) (apply stage (whole_of apply below P)) cells =
    subst (λ (Q : Plane). IsRight held (length all) (apply stage Q) cells)
    (developed_is shaped apply side input below P) were.right in
    record {
      right = right;
      rights = were.rights;
      sizes = sizes_from held (length all) (apply stage (whole_of apply below P)) grid.shape.planes cells
          top.own.shape.planes right;
    }

-- ---- nothing is wanted

meeting_none : (cells : List Rect) (k : ℕ) → meeting_from [] k cells ≡ []
meeting_none [] k = refl
meeting_none (cell ∷ cells) k = meeting_none cells (k + 1)

missing_none : (held : Held) (plane : ℕ) (cells : List Rect) → missing held plane (meeting cells []) ≡ []
missing_none held plane cells = ap (missing held plane) (meeting_none cells 0)

fresh_none : (held : Held) (plane : ℕ) (cells : List Rect) → fresh held plane (meeting cells []) ≡ []
fresh_none held plane cells = ap (fresh held plane) (meeting_none cells 0)

wanted_none : {S : Type 0} (held : Held) (need : S → Shape → Rect → Rect) (plane : ℕ) (tiers : List (Tier S))
    → wanted_below held need plane tiers [] ≡ []
wanted_none held need plane [] = refl
wanted_none held need plane (tier ∷ tiers) =
    ap (λ (rects : List Rect). needs_of held need (plane + 1) tier rects) (wanted_none held need (plane + 1) tiers)
    ∙ ap (λ (xs : List ℕ). map (need tier.stage tier.input) (cells_at tier.cells xs))
    (missing_none held (plane + 1) tier.cells)

pub runs_none : {S : Type 0} (held : Held) (need : S → Shape → Rect → Rect) (plane : ℕ) (tiers : List (Tier S))
    → count_of_runs held need plane tiers [] ≡ 0
runs_none held need plane [] = refl
runs_none held need plane (tier ∷ tiers) =
    let here : length (missing held (plane + 1) (meeting tier.cells (wanted_below held need (plane + 1) tiers [])))
    ≡ 0 =
    ap (λ (rects : List Rect). length (missing held (plane + 1) (meeting tier.cells rects)))
    (wanted_none held need (plane + 1) tiers) ∙ ap length (missing_none held (plane + 1) tier.cells) in
    omega (arith, here, runs_none held need (plane + 1) tiers)

pub fetches_none : {S : Type 0} (held : Held) (need : S → Shape → Rect → Rect) (cells : List Rect)
    (tiers : List (Tier S)) → count_of_fetches held need cells tiers [] ≡ 0
fetches_none held need cells tiers = ap (λ (rects : List Rect). length (missing held 0 (meeting cells rects)))
    (wanted_none held need 0 tiers) ∙ ap length (missing_none held 0 cells)

brought_none : {S : Type 0} (held : Held) (need : S → Shape → Rect → Rect) (c : Kept) (plane : ℕ)
    (tiers : List (Tier S)) → brought_above held need c plane tiers [] ≡ c
brought_none held need c plane [] = refl
brought_none held need c plane (tier ∷ tiers) =
    ap (λ (rects : List Rect). brought_each (brought_above held need c (plane + 1) tiers []) (plane + 1)
    (fresh held (plane + 1) (meeting tier.cells rects))) (wanted_none held need (plane + 1) tiers)
    ∙ ap (λ (xs : List ℕ). brought_each (brought_above held need c (plane + 1) tiers []) (plane + 1) xs)
    (fresh_none held (plane + 1) tier.cells)
    ∙ brought_none held need c (plane + 1) tiers

put_none : {S : Type 0} (held : Held) (need : S → Shape → Rect → Rect) (c : Kept) (plane : ℕ) (tiers : List (Tier S))
    → put_above held need c plane tiers [] ≡ c
put_none held need c plane [] = refl
put_none held need c plane (tier ∷ tiers) =
    ap (λ (rects : List Rect). put_above held need (put_each c (plane + 1) (size_of tier.cells tier.shape.planes)
    (missing held (plane + 1) (meeting tier.cells rects))) (plane + 1) tiers [])
    (wanted_none held need (plane + 1) tiers)
    ∙ ap (λ (xs : List ℕ). put_above held need (put_each c (plane + 1) (size_of tier.cells tier.shape.planes) xs)
    (plane + 1) tiers []) (missing_none held (plane + 1) tier.cells)
    ∙ put_none held need c (plane + 1) tiers

base_none : (held : Held) (c : Kept) (planes : ℕ) (cells : List Rect) → keep_base held c planes cells [] ≡ c
base_none held c planes cells =
    ap (λ (xs : List ℕ). put_each (brought_each c 0 xs) 0 (size_of cells planes) (missing held 0 (meeting cells [])))
    (fresh_none held 0 cells)
    ∙ ap (λ (xs : List ℕ). put_each c 0 (size_of cells planes) xs) (missing_none held 0 cells)

pub keep_none : {S : Type 0} (held : Held) (need : S → Shape → Rect → Rect) (c : Kept) (planes : ℕ) (cells : List Rect)
    (tiers : List (Tier S)) → keep held need c planes cells tiers [] ≡ c
keep_none held need c planes cells tiers =
    put_none held need (keep_base held (brought_above held need c 0 tiers []) planes cells
    (wanted_below held need 0 tiers [])) 0 tiers
    ∙ ap (λ (rects : List Rect). keep_base held (brought_above held need c 0 tiers []) planes cells rects)
    (wanted_none held need 0 tiers)
    ∙ base_none held (brought_above held need c 0 tiers []) planes cells
    ∙ brought_none held need c 0 tiers
