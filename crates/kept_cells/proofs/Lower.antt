-- A stack over a cache, with one tier more on top, and where the cache changes.
use Rattle.std.proofs.Common.{◌≡◌, ℕ, zero, suc, ◌+◌, ◌*◌, ◌<◌, ◌≤◌, List, [], ◌∷◌, ◌++◌, length, get_or, map, take}
use Rattle.std.proofs.Common.{⊎_elim, ◌≢◌, Bool, true, false, cond, not, refl, sym, ◌∙◌, ap, subst, arith}
use Rattle.std.specs.List.{All, Contains, filter}
use Rattle.std.proofs.lemmas.Bool.{cases_eq}
use Rattle.std.proofs.lemmas.List.Elements.{filter_agree, filter_more, Contains-append_left, Contains-append_right}
use Rattle.std.proofs.lemmas.List.Elements.{All-filter}
use Rattle.plane_view.specs.declared.Rect.{Rect}
use Rattle.plane_view.specs.declared.Shape.{Shape}
use Rattle.plane_view.specs.Plane.{Plane, crop}
use Rattle.plane_view.specs.Rectangles.{area_of}
use Rattle.plane_view.proofs.Crops.{length-crop}
use Rattle.stage_chain.specs.Chains.{whole_of}
use Rattle.kept_cells.specs.Tiers.{Tier}
use Rattle.stage_deps.specs.Cells.{meeting, cell_at, cells_at}
use Rattle.stage_deps.proofs.Coverage.{meeting_bounds}
use Rattle.kept_cells.specs.Held.{Held, SameHeld, Takes, TakesOf, TakesUpTo, IsRight, HasSizes, AreRight, missing}
use Rattle.kept_cells.specs.Missing.{needs_of, wanted_below, count_of_runs, count_of_fetches}

-- the stages of tiers applied in turn
abbrev pub developed : {S : Type 0} → (S → Plane → Plane) → List (Tier S) → Plane → Plane
developed apply tiers P = whole_of apply (map (λ (tier : Tier _). tier.stage) tiers) P

-- the number of the tier on top
abbrev pub top_number : {S : Type 0} → ℕ → List (Tier S) → ℕ
top_number plane tiers = plane + length tiers + 1

-- a cache that only lost things of some planes
abbrev pub OnlyLost : Held → Held → (ℕ → Type 0) → Type 0
OnlyLost old new here = (p k : ℕ) → here p → new.holds p k ≡ true → (old.holds p k ≡ true)
    × (new.samples p k ≡ old.samples p k)

pub right_kept : (old new : Held) (plane : ℕ) (P : Plane) (cells : List Rect) → OnlyLost old new (λ p. p ≡ plane)
    → IsRight old plane P cells → IsRight new plane P cells
right_kept old new plane P cells lost right = λ k below now. let was = lost plane k refl now in was.1
    ∙ right k below was.0

pub all_right_kept : {S : Type 0} (apply : S → Plane → Plane) (old new : Held) (plane : ℕ) (P : Plane)
    (tiers : List (Tier S)) → OnlyLost old new (λ p. (plane < p) × (p ≤ plane + length tiers))
    → AreRight apply old plane P tiers → AreRight apply new plane P tiers
all_right_kept apply old new plane P [] lost right = tt
all_right_kept apply old new plane P (tier ∷ tiers) lost right = (
  right_kept old new (plane + 1) (apply tier.stage P) tier.cells (λ p k is now. lost p k (omega arith, omega arith) now)
      right.0,
  all_right_kept apply old new (plane + 1) (apply tier.stage P) tiers
      (λ p k here now. lost p k (omega (arith, here.0), omega (arith, here.1)) now) right.1,
)

-- the tier on top
pub right_last : {S : Type 0} (apply : S → Plane → Plane) (held : Held) (plane : ℕ) (P : Plane) (tiers : List (Tier S))
    (tier : Tier S) → AreRight apply held plane P (tiers ++ tier ∷ [])
    → AreRight apply held plane P tiers
    × IsRight held (top_number plane tiers) (apply tier.stage (developed apply tiers P)) tier.cells
right_last apply held plane P [] tier right =
    let is : plane + 1 ≡ plane + 0 + 1 = omega arith in
    (tt, subst (λ (n : ℕ). IsRight held n (apply tier.stage P) tier.cells) is right.0)
right_last apply held plane P (first ∷ tiers) tier right =
    let rest = right_last apply held (plane + 1) (apply first.stage P) tiers tier right.1 in
    let is : top_number (plane + 1) tiers ≡ plane + (length (first ∷ tiers)) + 1 = omega arith in (
      (right.0, rest.0),
      subst
          (λ (n : ℕ). IsRight held n (apply tier.stage (developed apply tiers (apply first.stage P))) tier.cells) is
          rest.1,
    )

pub right_push : {S : Type 0} (apply : S → Plane → Plane) (held : Held) (plane : ℕ) (P : Plane) (tiers : List (Tier S))
    (tier : Tier S) → AreRight apply held plane P tiers
    → IsRight held (top_number plane tiers) (apply tier.stage (developed apply tiers P)) tier.cells
    → AreRight apply held plane P (tiers ++ tier ∷ [])
right_push apply held plane P [] tier rights right =
    let is : plane + 0 + 1 ≡ plane + 1 = omega arith in
    (subst (λ (n : ℕ). IsRight held n (apply tier.stage P) tier.cells) is right, tt)
right_push apply held plane P (first ∷ tiers) tier rights right =
    let is : plane + (length (first ∷ tiers)) + 1 ≡ top_number (plane + 1) tiers = omega arith in (
      rights.0,
      right_push apply held (plane + 1) (apply first.stage P) tiers tier rights.1
          (subst (λ (n : ℕ). IsRight held n (apply tier.stage (developed apply tiers (apply first.stage P))) tier.cells)
          is right),
    )

pub wanted_last : {S : Type 0} (held : Held) (need : S → Shape → Rect → Rect) (plane : ℕ) (tiers : List (Tier S))
    (tier : Tier S) (wanted : List Rect)
    → wanted_below held need plane (tiers ++ tier ∷ []) wanted ≡ wanted_below held need plane tiers
    (needs_of held need (top_number plane tiers) tier wanted)
wanted_last held need plane [] tier wanted = let is : plane + 1 ≡ plane + 0 + 1 = omega arith in
    ap (λ n. needs_of held need n tier wanted) is
wanted_last held need plane (first ∷ tiers) tier wanted =
    let is : top_number (plane + 1) tiers ≡ plane + (length (first ∷ tiers)) + 1 = omega arith in
    ap (needs_of held need (plane + 1) first) (wanted_last held need (plane + 1) tiers tier wanted
    ∙ ap (λ n. wanted_below held need (plane + 1) tiers (needs_of held need n tier wanted)) is)

pub runs_last : {S : Type 0} (held : Held) (need : S → Shape → Rect → Rect) (plane : ℕ) (tiers : List (Tier S))
    (tier : Tier S) (wanted : List Rect)
    → count_of_runs held need plane (tiers ++ tier ∷ []) wanted ≡ count_of_runs held need plane tiers
    (needs_of held need (top_number plane tiers) tier wanted) + length
    (missing held (top_number plane tiers) (meeting tier.cells wanted))
runs_last held need plane [] tier wanted =
    let is : plane + 1 ≡ plane + 0 + 1 = omega arith in
    let same = ap (λ n. length (missing held n (meeting tier.cells wanted))) is in
    omega (arith, same)
runs_last held need plane (first ∷ tiers) tier wanted =
    let is : top_number (plane + 1) tiers ≡ plane + (length (first ∷ tiers)) + 1 = omega arith in
    let here = ap (λ (rects : List Rect). length (missing held (plane + 1) (meeting first.cells rects)))
    (wanted_last held need (plane + 1) tiers tier wanted
    ∙ ap (λ n. wanted_below held need (plane + 1) tiers (needs_of held need n tier wanted)) is) in
    let rest = runs_last held need (plane + 1) tiers tier wanted
    ∙ ap (λ n. count_of_runs held need (plane + 1) tiers (needs_of held need n tier wanted) + length
    (missing held n (meeting tier.cells wanted))) is in
    omega (arith, here, rest)

-- the same is missing where the same is held
pub missing_same : (old new : Held) (plane : ℕ) (numbers : List ℕ) → ((p k : ℕ) → new.holds p k ≡ old.holds p k)
    → missing new plane numbers ≡ missing old plane numbers
missing_same old new plane numbers same = filter_agree (λ k. not (new.holds plane k)) (λ k. not (old.holds plane k))
    (λ k. ap not (same plane k)) numbers

pub wanted_same : {S : Type 0} (old new : Held) (need : S → Shape → Rect → Rect) (plane : ℕ) (tiers : List (Tier S))
    (wanted : List Rect) → ((p k : ℕ) → new.holds p k ≡ old.holds p k) → wanted_below new need plane tiers wanted
    ≡ wanted_below old need plane tiers wanted
wanted_same old new need plane [] wanted same = refl
wanted_same old new need plane (tier ∷ tiers) wanted same =
    ap (λ (rects : List Rect). needs_of new need (plane + 1) tier rects)
    (wanted_same old new need (plane + 1) tiers wanted same)
    ∙ ap (λ (xs : List ℕ). map (need tier.stage tier.input) (cells_at tier.cells xs))
    (missing_same old new (plane + 1) (meeting tier.cells (wanted_below old need (plane + 1) tiers wanted)) same)

pub runs_same : {S : Type 0} (old new : Held) (need : S → Shape → Rect → Rect) (plane : ℕ) (tiers : List (Tier S))
    (wanted : List Rect) → ((p k : ℕ) → new.holds p k ≡ old.holds p k) → count_of_runs new need plane tiers wanted
    ≡ count_of_runs old need plane tiers wanted
runs_same old new need plane [] wanted same = refl
runs_same old new need plane (tier ∷ tiers) wanted same =
    let here = ap (λ (rects : List Rect). length (missing new (plane + 1) (meeting tier.cells rects)))
    (wanted_same old new need (plane + 1) tiers wanted same)
    ∙ ap length (missing_same old new (plane + 1) (meeting tier.cells (wanted_below old need (plane + 1) tiers wanted))
    same) in
    omega (arith, here, runs_same old new need (plane + 1) tiers wanted same)

pub fetches_same : {S : Type 0} (old new : Held) (need : S → Shape → Rect → Rect) (cells : List Rect)
    (tiers : List (Tier S)) (wanted : List Rect) → ((p k : ℕ) → new.holds p k ≡ old.holds p k)
    → count_of_fetches new need cells tiers wanted ≡ count_of_fetches old need cells tiers wanted
fetches_same old new need cells tiers wanted same =
    ap (λ (rects : List Rect). length (missing new 0 (meeting cells rects)))
    (wanted_same old new need 0 tiers wanted same)
    ∙ ap length (missing_same old new 0 (meeting cells (wanted_below old need 0 tiers wanted)) same)

-- a number whose cell is held or isn't
among_passed : (p : ℕ → Bool) (numbers : List ℕ) (i : ℕ) → i < length numbers → p (get_or numbers i 0) ≡ true
    → Contains (filter p numbers) (get_or numbers i 0)
among_passed p [] i below passes = absurd (omega arith)
among_passed p (x ∷ numbers) zero below passes = rw passes (0, omega arith, refl)
among_passed p (x ∷ numbers) (suc i) below passes =
    let rest = among_passed p numbers i (omega arith) passes in
    elim (p x) as (λ b. Contains (cond b (x ∷ filter p numbers) (filter p numbers))
    (get_or numbers i 0)) [ true ↦ (suc rest.0, omega (arith, rest.1), rest.2) | false ↦ rest ]

pub among_both : (p : ℕ → Bool) (numbers : List ℕ) (i : ℕ) (b : Bool) → i < length numbers → p (get_or numbers i 0) ≡ b
    → Contains (filter p numbers ++ filter (λ k. not (p k)) numbers) (get_or numbers i 0)
among_both p numbers i true below is = Contains-append_left (filter p numbers) (filter (λ k. not (p k)) numbers)
    (get_or numbers i 0) (among_passed p numbers i below is)
among_both p numbers i false below is = Contains-append_right (filter p numbers) (filter (λ k. not (p k)) numbers)
    (get_or numbers i 0) (among_passed (λ k. not (p k)) numbers i below (ap not is))

-- right cells have their size
pub sizes_from : (held : Held) (plane : ℕ) (P : Plane) (planes : ℕ) (cells : List Rect) → P.planes ≡ planes
    → IsRight held plane P cells → HasSizes held plane planes cells
sizes_from held plane P planes cells same right = λ k below now. ap length (right k below now)
    ∙ length-crop P (cell_at cells k) ∙ ap (λ n. area_of (cell_at cells k) * n) same

pub right_same : (old new : Held) (plane : ℕ) (P : Plane) (cells : List Rect) → SameHeld old new
    → IsRight old plane P cells → IsRight new plane P cells
right_same old new plane P cells same right =
    right_kept old new plane P cells (λ p k here now. (sym (same.holds p k) ∙ now, same.samples p k)) right

pub rights_same : {S : Type 0} (apply : S → Plane → Plane) (old new : Held) (P : Plane) (tiers : List (Tier S))
    → SameHeld old new → AreRight apply old 0 P tiers → AreRight apply new 0 P tiers
rights_same apply old new P tiers same right =
    all_right_kept apply old new 0 P tiers (λ p k here now. (sym (same.holds p k) ∙ now, same.samples p k)) right

-- what is held is right once the planes below a tier are made
pub rights_lower : {S : Type 0} (apply : S → Plane → Plane) (first opened lower : Held) (P : Plane)
    (all tiers : List (Tier S)) (tier : Tier S) → all ≡ tiers ++ tier ∷ []
    → SameHeld first opened → TakesUpTo opened lower (length tiers) → AreRight apply first 0 P all
    → AreRight apply lower 0 P tiers → AreRight apply lower 0 P all
rights_lower apply first opened lower P all tiers tier split same takes rights below =
    let were = right_last apply first 0 P tiers tier (subst (λ (xs : List (Tier _)). AreRight apply first 0 P xs) split
    rights) in
    let Q : Plane = apply tier.stage (developed apply tiers P) in
    let cells : List Rect = tier.cells in
    let at_open : IsRight opened (0 + length tiers + 1) Q cells = right_same first opened (0 + length tiers + 1) Q cells
    same were.1 in
    let at_lower : IsRight lower (0 + length tiers + 1) Q cells = right_kept opened lower (0 + length tiers + 1) Q cells
    (λ p k here now. takes.above p k (omega arith) now) at_open in
    subst (λ (xs : List (Tier _)). AreRight apply lower 0 P xs) (sym split)
    (right_push apply lower 0 P tiers tier below at_lower)

-- and once the tier's cells are run
pub rights_run : {S : Type 0} (apply : S → Plane → Plane) (lower new : Held) (P : Plane) (all tiers : List (Tier S))
    (tier : Tier S) (plane : ℕ) → all ≡ tiers ++ tier ∷ [] → plane ≡ length tiers + 1
    → TakesOf lower new plane → (IsRight lower plane (apply tier.stage (developed apply tiers P)) tier.cells
    → IsRight new plane (apply tier.stage (developed apply tiers P)) tier.cells)
    → AreRight apply lower 0 P all → AreRight apply new 0 P all
rights_run apply lower new P all tiers tier plane split is takes step rights =
    let were = right_last apply lower 0 P tiers tier (subst (λ (xs : List (Tier _)). AreRight apply lower 0 P xs) split
    rights) in
    let Q : Plane = apply tier.stage (developed apply tiers P) in
    let cells : List Rect = tier.cells in
    let same : 0 + length tiers + 1 ≡ plane = omega arith in
    let top : IsRight new (0 + length tiers + 1) Q cells = subst (λ (n : ℕ). IsRight new n Q cells) (sym same)
    (step (subst (λ (n : ℕ). IsRight lower n Q cells) same were.1)) in
    let below : AreRight apply new 0 P tiers =
    all_right_kept apply lower new 0 P tiers (λ p k here now. takes.others p k (λ e. omega (arith, here.1)) now)
    were.0 in
    subst (λ (xs : List (Tier _)). AreRight apply new 0 P xs) (sym split)
    (right_push apply new 0 P tiers tier below top)

pub takes_lower : (first opened lower : Held) (low plane : ℕ) → SameHeld first opened → TakesUpTo opened lower low
    → low ≤ plane → TakesUpTo first lower plane
takes_lower first opened lower low plane same takes order =
    record {
      above = λ p k high now. let was = takes.above p k (omega arith) now in
          (sym (same.holds p k) ∙ was.0, was.1 ∙ same.samples p k);
    }

pub takes_run : (first lower new : Held) (plane : ℕ) → TakesUpTo first lower plane → TakesOf lower new plane
    → TakesUpTo first new plane
takes_run first lower new plane before takes =
    record {
      above = λ p k high now. let was = takes.others p k (λ e. omega arith) now in
          let then = before.above p k high was.0 in (then.0, was.1 ∙ then.1);
    }

-- the missing numbers are those of cells
pub missing_bounds : (held : Held) (plane : ℕ) (cells wanted : List Rect)
    → All (λ k. k < length cells) (missing held plane (meeting cells wanted))
missing_bounds held plane cells wanted = All-filter (λ k. not (held.holds plane k)) (λ k. k < length cells)
    (meeting cells wanted) (meeting_bounds cells wanted)

-- the tier on top, and what is held of it
pub record IsTopKept {S : Type 0} (apply : S → Plane → Plane) (held : Held) (P : Plane) (tiers : List (Tier S))
    (tier : Tier S) (plane : ℕ) : Type 0 where
  pub right : IsRight held plane (apply tier.stage (developed apply tiers P)) tier.cells
  pub rights : AreRight apply held 0 P tiers

pub top_kept : {S : Type 0} (apply : S → Plane → Plane) (held : Held) (P : Plane) (all tiers : List (Tier S))
    (tier : Tier S) (plane : ℕ) → all ≡ tiers ++ tier ∷ [] → plane ≡ length tiers + 1 → AreRight apply held 0 P all
    → IsTopKept apply held P tiers tier plane
top_kept apply held P all tiers tier plane split is rights =
    let were = right_last apply held 0 P tiers tier (subst (λ (xs : List (Tier _)). AreRight apply held 0 P xs) split
    rights) in
    let same : 0 + length tiers + 1 ≡ plane = omega arith in
    record {
      right = subst (λ (n : ℕ). IsRight held n (apply tier.stage (developed apply tiers P)) tier.cells) same
          were.1;
      rights = were.0;
    }

-- what is missing in all
pub fetches_top : {S : Type 0} (held : Held) (need : S → Shape → Rect → Rect) (cells : List Rect)
    (all tiers : List (Tier S)) (tier : Tier S) (wanted : List Rect) (plane : ℕ) → all ≡ tiers ++ tier ∷ []
    → plane ≡ length tiers + 1
    → count_of_fetches held need cells all wanted ≡ count_of_fetches held need cells tiers
    (needs_of held need plane tier wanted)
fetches_top held need cells all tiers tier wanted plane split is =
    let same : 0 + length tiers + 1 ≡ plane = omega arith in
    ap (λ (xs : List (Tier _)). count_of_fetches held need cells xs wanted) split
    ∙ ap (λ (rects : List Rect). length (missing held 0 (meeting cells rects)))
    (wanted_last held need 0 tiers tier wanted)
    ∙ ap (λ n. count_of_fetches held need cells tiers (needs_of held need n tier wanted)) same

pub runs_top : {S : Type 0} (held : Held) (need : S → Shape → Rect → Rect) (all tiers : List (Tier S)) (tier : Tier S)
    (wanted : List Rect) (plane : ℕ) → all ≡ tiers ++ tier ∷ [] → plane ≡ length tiers + 1
    → count_of_runs held need 0 all wanted ≡ count_of_runs held need 0 tiers (needs_of held need plane tier wanted) +
    length (missing held plane (meeting tier.cells wanted))
runs_top held need all tiers tier wanted plane split is =
    let same : 0 + length tiers + 1 ≡ plane = omega arith in
    ap (λ (xs : List (Tier _)). count_of_runs held need 0 xs wanted) split
    ∙ runs_last held need 0 tiers tier wanted
    ∙ ap (λ n. count_of_runs held need 0 tiers (needs_of held need n tier wanted) + length
    (missing held n (meeting tier.cells wanted))) same

pub missing_step : (held : Held) (plane : ℕ) (numbers : List ℕ) (i : ℕ) (found : Bool) → i < length numbers
    → found ≡ held.holds plane (get_or numbers i 0)
    → missing held plane (take (i + 1) numbers) ≡ missing held plane (take i numbers)
    ++ cond found [] (get_or numbers i 0 ∷ [])
missing_step held plane numbers i true within is = filter_more (λ k. not (held.holds plane k)) numbers i 0 within
    ∙ ap (λ b. missing held plane (take i numbers) ++ cond (not b) (get_or numbers i 0 ∷ []) []) (sym is)
missing_step held plane numbers i false within is = filter_more (λ k. not (held.holds plane k)) numbers i 0 within
    ∙ ap (λ b. missing held plane (take i numbers) ++ cond (not b) (get_or numbers i 0 ∷ []) []) (sym is)

-- what is held of a plane stays right where a right cell is taken in
pub put_right : (old new : Held) (plane n : ℕ) (xs : List ℕ) (Q : Plane) (cells : List Rect) → Takes old new plane n xs
    → xs ≡ (crop Q (cell_at cells n)).samples → IsRight old plane Q cells → IsRight new plane Q cells
put_right old new plane n xs Q cells takes are right = λ k below now.
    ⊎_elim
    (λ (same : k ≡ n). ap (new.samples plane) same ∙ takes.this (ap (new.holds plane) (sym same) ∙ now) ∙ are
    ∙ ap (λ (m : ℕ). (crop Q (cell_at cells m)).samples) (sym same))
    (λ (other : k ≢ n). let was = takes.others plane k (λ _ e. other e) now in was.1 ∙ right k below was.0)
    (cases_eq k n)

-- and what is held of the other planes only goes out
pub put_others : (first old new : Held) (plane n : ℕ) (xs : List ℕ) → TakesOf first old plane → Takes old new plane n xs
    → TakesOf first new plane
put_others first old new plane n xs before takes =
    record {
      others = λ p k other now. let was = takes.others p k (λ e _. other e) now in
          let then = before.others p k other was.0 in (then.0, was.1 ∙ then.1);
    }
