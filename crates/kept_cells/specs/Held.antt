-- What a cache holds: cells of planes, by their numbers. This is this project's own.
use Rattle.std.specs.Prelude.{◌≡◌, ℕ, ◌*◌, ◌+◌, ◌<◌, List, [], ◌∷◌, length, Bool, true, not}
use Rattle.std.specs.List.{filter}
use Rattle.plane_view.specs.declared.Rect.{Rect}
use Rattle.plane_view.specs.Plane.{Plane, crop}
use Rattle.plane_view.specs.Rectangles.{area_of}
use Rattle.kept_cells.specs.Tiers.{Tier}
use Rattle.stage_deps.specs.Cells.{cell_at}

-- whether the cell of a plane is held, and the samples that are held of it
pub record Held : Type 0 where
  pub holds : ℕ → ℕ → Bool
  pub samples : ℕ → ℕ → List ℕ

-- both hold the same cells
pub record SameHeld (old new : Held) : Type 0 where
  pub holds : (plane k : ℕ) → new.holds plane k ≡ old.holds plane k
  pub samples : (plane k : ℕ) → new.samples plane k ≡ old.samples plane k

-- one cell may have come in, and any others gone out
pub record Takes (old new : Held) (plane cell : ℕ) (xs : List ℕ) : Type 0 where
  pub this : new.holds plane cell ≡ true → new.samples plane cell ≡ xs
  pub others : (p k : ℕ) → (p ≡ plane → k ≡ cell → ⊥) → new.holds p k ≡ true
      → (old.holds p k ≡ true) × (new.samples p k ≡ old.samples p k)

-- cells of one plane may have come in, and any of the others gone out
pub record TakesOf (old new : Held) (plane : ℕ) : Type 0 where
  pub others : (p k : ℕ) → (p ≡ plane → ⊥) → new.holds p k ≡ true
      → (old.holds p k ≡ true) × (new.samples p k ≡ old.samples p k)

-- cells of planes up to one may have come in, and any of the others gone out
pub record TakesUpTo (old new : Held) (plane : ℕ) : Type 0 where
  pub above : (p k : ℕ) → plane < p → new.holds p k ≡ true
      → (old.holds p k ≡ true) × (new.samples p k ≡ old.samples p k)

-- the held cells of a plane are crops of it
abbrev pub IsRight : Held → ℕ → Plane → List Rect → Type 0
IsRight held plane P cells =
    (k : ℕ) → k < length cells → held.holds plane k ≡ true → held.samples plane k ≡ (crop P (cell_at cells k)).samples

-- the held cells of a plane have their size
abbrev pub HasSizes : Held → ℕ → ℕ → List Rect → Type 0
HasSizes held plane planes cells =
    (k : ℕ) → k < length cells → held.holds plane k ≡ true
    → length (held.samples plane k) ≡ area_of (cell_at cells k) * planes

-- the same of all planes of a stack; `plane` is the number of the one below the first tier
abbrev pub AreRight : {S : Type 0} → (S → Plane → Plane) → Held → ℕ → Plane → List (Tier S) → Type 0
AreRight apply held plane P [] = Unit {0}
AreRight apply held plane P (tier ∷ tiers) =
    IsRight held (plane + 1) (apply tier.stage P) tier.cells
    × AreRight apply held (plane + 1) (apply tier.stage P) tiers

-- those of the numbers whose cells of this plane are held
abbrev pub fresh : Held → ℕ → List ℕ → List ℕ
fresh held plane numbers = filter (held.holds plane) numbers

-- those of the numbers whose cells of this plane aren't held
abbrev pub missing : Held → ℕ → List ℕ → List ℕ
missing held plane numbers = filter (λ k. not (held.holds plane k)) numbers
