-- What is held stays right where a stage is replaced.
use Rattle.std.proofs.Common.{◌≡◌, ℕ, zero, suc, ◌+◌, ◌-◌, ◌<◌, ◌≤◌, List, [], ◌∷◌, length, slice_get, slice_set, Some}
use Rattle.std.proofs.Common.{Bool, true, false, refl, sym, ◌∙◌, ap, subst, arith}
use Rattle.std.proofs.lemmas.List.{length-set}
use Rattle.std.proofs.lemmas.Option.{same_Some}
use Rattle.plane_view.specs.declared.Rect.{Rect}
use Rattle.plane_view.specs.declared.Shape.{Shape}
use Rattle.plane_view.specs.Plane.{Plane}
use Rattle.stage_core.specs.Stages.{AreAlike}
use Rattle.stage_deps.specs.Grids.{grid_cells}
use Rattle.tile_cache.specs.Pairs.{Cache}
use Rattle.kept_cells.specs.Held.{AreRight, Held, IsRight}
use Rattle.kept_cells.specs.Tiers.{Tier, tiers_of}
use Rattle.kept_cells.specs.Tiling.{held_in}
use Rattle.kept_cells.proofs.Lower.{OnlyLost, right_kept}
use Rattle.region_session.proofs.Tiering.{tiers_length}

-- of no cell it is right
pub nothing_right : {S : Type 0} (apply : S → Plane → Plane) (held : Held) (plane : ℕ) (P : Plane)
    (tiers : List (Tier S))
    → ((p k : ℕ) → plane < p → p ≤ plane + length tiers → held.holds p k ≡ false) → AreRight apply held plane P tiers
nothing_right apply held plane P [] none = tt
nothing_right apply held plane P (tier ∷ tiers) none = (
  λ k below now. let not = none (plane + 1) k (omega arith) (omega arith) in let both : true ≡ false = sym now ∙ not in
      cc,
  nothing_right apply held (plane + 1) (apply tier.stage P) tiers
      (λ p k high low. none p k (omega arith) (omega arith)),
)

-- a stage changes, and no cell is held from its plane up
pub changed_right : {S : Type 0} (shaped : S → Shape → Shape) (apply : S → Plane → Plane) (old new : Held) (side : ℕ)
    (plane : ℕ) (input : Shape) (P : Plane) (stages : List S) (i : ℕ) (stage : S)
    → OnlyLost old new (λ p. (plane < p) × (p ≤ plane + i))
    → ((p k : ℕ) → plane + i < p → p ≤ plane + length (tiers_of shaped side input (slice_set stages i stage))
    → new.holds p k ≡ false)
    → AreRight apply old plane P (tiers_of shaped side input stages)
    → AreRight apply new plane P (tiers_of shaped side input (slice_set stages i stage))
changed_right shaped apply old new side plane input P [] i stage lost none right = tt
changed_right shaped apply old new side plane input P (first ∷ stages) zero stage lost none right =
    nothing_right apply new plane P (tiers_of shaped side input (stage ∷ stages))
    (λ p k high low. none p k (omega arith) low)
changed_right shaped apply old new side plane input P (first ∷ stages) (suc i) stage lost none right = (
  right_kept old new (plane + 1) (apply first P) (grid_cells (shaped first input) side)
      (λ p k is now. lost p k (omega arith, omega arith) now) right.0,
  changed_right shaped apply old new side (plane + 1) (shaped first input) (apply first P) stages i stage
      (λ p k here now. lost p k (omega (arith, here.0), omega (arith, here.1)) now)
      (λ p k high low. none p k (omega arith) (omega arith))
      right.1,
)

-- an equal stage comes, and the same is held
pub alike_right : {S : Type 0} (takes : S → Shape → Type 0) (shaped : S → Shape → Shape) (needed : S → Shape → Rect
    → Rect) (apply : S → Plane → Plane) (held : Held) (side : ℕ) (plane : ℕ) (input : Shape) (P : Plane) (stages :
    List S) (i : ℕ) (former stage : S)
    → slice_get stages i ≡ Some former → AreAlike takes shaped needed apply former stage
    → AreRight apply held plane P (tiers_of shaped side input stages)
    → AreRight apply held plane P (tiers_of shaped side input (slice_set stages i stage))
alike_right takes shaped needed apply held side plane input P [] i former stage at alike right = tt
alike_right takes shaped needed apply held side plane input P (first ∷ stages) zero former stage at alike right =
    let is : first ≡ former = same_Some first former at in
    let made : apply first P ≡ apply stage P = ap (λ (s : _). apply s P) is ∙ alike.meanings P in
    let shapes : shaped first input ≡ shaped stage input = ap (λ (s : _). shaped s input) is ∙ alike.shapes input in (
      subst (λ (t : Shape). IsRight held (plane + 1) (apply stage P) (grid_cells t side)) shapes
          (subst (λ (Q : Plane). IsRight held (plane + 1) Q (grid_cells (shaped first input) side)) made right.0),
      subst (λ (t : Shape). AreRight apply held (plane + 1) (apply stage P) (tiers_of shaped side t stages)) shapes
          (subst (λ (Q : Plane). AreRight apply held (plane + 1) Q (tiers_of shaped side (shaped first input) stages))
          made right.1),
    )
alike_right takes shaped needed apply held side plane input P (first ∷ stages) (suc i) former stage at alike right = (
  right.0,
  alike_right takes shaped needed apply held side (plane + 1) (shaped first input) (apply first P) stages i
      former stage at alike right.1,
)

-- what a change of plane k, or none, does to the stamps under which cells are held
pub record Changes (equal : Bool) (k : ℕ) (a b : Cache) (s t : List ℕ) : Type 0 where
  pub equal_stamps : equal ≡ true → t ≡ s
  pub same_cells : b ≡ a
  pub stale : equal ≡ false → (p n : ℕ) → k ≤ p → p < length s → (held_in b t).holds p n ≡ false
  pub holds : (p n : ℕ) → p < k → (held_in b t).holds p n ≡ (held_in a s).holds p n
  pub samples : (p n : ℕ) → p < k → (held_in b t).samples p n ≡ (held_in a s).samples p n

pub replaced_right : {S : Type 0} (takes : S → Shape → Type 0) (shaped : S → Shape → Shape) (needed : S → Shape → Rect
    → Rect) (apply : S → Plane → Plane) (side : ℕ) (input : Shape) (P : Plane) (stages : List S) (k : ℕ) (former stage :
    S)
    (equal : Bool) (a b : Cache) (s t : List ℕ) → 1 ≤ k → k ≤ length stages → length s ≡ length stages + 1
    → slice_get stages (k - 1) ≡ Some former → (equal ≡ true → AreAlike takes shaped needed apply former stage)
    → Changes equal k a b s t
    → AreRight apply (held_in a s) 0 P (tiers_of shaped side input stages)
    → AreRight apply (held_in b t) 0 P (tiers_of shaped side input (slice_set stages (k - 1) stage))
replaced_right takes shaped needed apply side input P stages k former stage true a b s t some within long at alike
    changes right =
    let same : held_in a s ≡ held_in b t = ap (λ (c : Cache). held_in c s) (sym changes.same_cells)
    ∙ ap (λ (stamps : List ℕ). held_in b stamps) (sym (changes.equal_stamps refl)) in
    subst (λ (held : Held). AreRight apply held 0 P (tiers_of shaped side input (slice_set stages (k - 1) stage))) same
    (alike_right takes shaped needed apply (held_in a s) side 0 input P stages (k - 1) former stage at (alike refl)
    right)
replaced_right takes shaped needed apply side input P stages k former stage false a b s t some within long at alike
    changes right =
    let many : length (tiers_of shaped side input (slice_set stages (k - 1) stage)) ≡ length stages =
    tiers_length shaped side input (slice_set stages (k - 1) stage) ∙ length-set stages (k - 1) stage in
    changed_right shaped apply (held_in a s) (held_in b t) side 0 input P stages (k - 1) stage
    (λ p n here now. let low : p < k = omega (arith, here.1, some) in
    (sym (changes.holds p n low) ∙ now, changes.samples p n low))
    (λ p n high low. changes.stale refl p n (omega (arith, high, some)) (omega (arith, low, many, long)))
    right

-- the base's plane stays right
pub base_kept : (equal : Bool) (k : ℕ) (a b : Cache) (s t : List ℕ) (P : Plane) (cells : List Rect) → 1 ≤ k
    → Changes equal k a b s t → IsRight (held_in a s) 0 P cells → IsRight (held_in b t) 0 P cells
base_kept equal k a b s t P cells some changes right =
    right_kept (held_in a s) (held_in b t) 0 P cells (λ p n is now. let low : p < k = omega (arith, is, some) in
    (sym (changes.holds p n low) ∙ now, changes.samples p n low)) right
