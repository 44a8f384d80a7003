-- Rows that are mapped column by column.
use Rattle.std.proofs.Common.{◌≡◌, ℕ, ◌+◌, ◌-◌, ◌*◌, ◌/◌, ◌%◌, ◌<◌, ◌≤◌, ◌≢◌, if◌then◌else◌, subst, ◌&&◌, eqb, Bool}
use Rattle.std.proofs.Common.{true, false, List, length, get_or, set, min, refl, sym, ◌∙◌, ap, ⊎_elim, arith, Decides}
use Rattle.std.proofs.Common.{get_or-set_same, get_or-set_other}
use Rattle.std.proofs.lemmas.Bool.{cases_eq, cases_lt}
use Rattle.std.proofs.lemmas.Bool.Decides.{nat_tests, same_from_decides, Decides-eqb}
use Rattle.std.proofs.lemmas.Nat.{div-mul-add, mod-mul-add}
use Rattle.opcode_stages.specs.Maps.{entry_of}
use Rattle.opcode_stages.specs.inner.MapRows.{is_column, MapsColumns}
use Rattle.opcode_stages.proofs.Pitches.{short_mod, next_mod}

-- what the test of a column says
pub record IsColumn (from to pitch k : ℕ) : Type 0 where
  pub above : from ≤ k
  pub below : k < to
  pub step : (k - from) % pitch ≡ 0

pub column_decides : (from to pitch k : ℕ) → Decides (is_column from to pitch k) (IsColumn from to pitch k)
column_decides from to pitch k = (
  λ e. record {
    above = grind (arith, nat_tests);
    below = grind (arith, nat_tests);
    step = grind (arith, nat_tests);
  },
  λ h. grind (arith, nat_tests),
)

-- a column before the next one, or after it
pub column_more : (from to pitch k j : ℕ) → 0 < pitch → from ≤ k → (k - from) % pitch ≡ 0 → k < to → j ≢ k
    → is_column from (min (k + pitch) to) pitch j ≡ is_column from (min k to) pitch j
column_more from to pitch k j some above step below other =
    same_from_decides _ _ (column_decides from (min (k + pitch) to) pitch j) (
      λ e.
          let h : IsColumn from (min k to) pitch j = (column_decides from (min k to) pitch j).0 e in
          record { above = h.above; below = omega arith; step = h.step },
      λ h.
          let low : j < k + pitch = omega arith in
          let before : j < k = ⊎_elim (λ (lt : j < k). lt)
          (λ (ge : k ≤ j).
          let same : j - from ≡ (k - from) + (j - k) = omega arith in
          let rest : (j - from) % pitch ≡ (k - from) % pitch + (j - k) = ap (λ n. n % pitch) same
          ∙ short_mod (k - from) (j - k) pitch (omega arith) in
          absurd (omega arith)) (cases_lt j k) in
          (column_decides from (min k to) pitch j).1 (record { above = h.above; below = omega arith; step = h.step }),
    )

-- two places are the same only where they are in one pixel and one plane
pub apart : (j q k p n : ℕ) → q < n → p < n → j * n + q ≡ k * n + p → (j ≡ k) × (q ≡ p)
apart j q k p n plane plane' same = (
  sym (div-mul-add j n q plane) ∙ ap (λ x. x / n) same ∙ div-mul-add k n p plane',
  sym (mod-mul-add j n q plane)
      ∙ ap (λ x. x % n) same ∙ mod-mul-add k n p plane',
)

-- one more column is mapped
pub maps_more : (table old now : List ℕ) (planes p from k to pitch v : ℕ) → 0 < pitch → p < planes → from ≤ k
    → (k - from) % pitch ≡ 0 → k < to → k * planes + p < length now → v ≡ entry_of table (get_or now (k * planes + p) 0)
    → MapsColumns table old now planes p from (min k to) pitch
    → MapsColumns table old (set now (k * planes + p) v) planes p from (min (k + pitch) to) pitch
maps_more table old now planes p from k to pitch v some plane above step below within entry done j q plane' =
    let was = λ (j q : ℕ). get_or old (j * planes + q) 0 in
    let choice = λ (b : Bool) (x : ℕ). if b then entry_of table x else x in
    ⊎_elim
    (λ (column : j ≡ k).
    ⊎_elim
    (λ (same : q ≡ p).
    let not_yet : is_column from (min k to) pitch k ≡ false = grind (arith, nat_tests) in
    let now_it : is_column from (min (k + pitch) to) pitch k ≡ true =
    (column_decides from (min (k + pitch) to) pitch k).1
    (record { above = above; below = omega arith; step = step }) in
    let eq : eqb p p ≡ true = (Decides-eqb p p).1 refl in
    let before : get_or now (k * planes + p) 0 ≡ was k p = done k p plane
    ∙ ap (λ b. choice (eqb p p && b) (was k p)) not_yet ∙ ap (λ b. choice (b && false) (was k p)) eq in
    let here : get_or (set now (k * planes + p) v) (k * planes + p) 0
    ≡ choice (eqb p p && is_column from (min (k + pitch) to) pitch k) (was k p) =
    get_or-set_same now (k * planes + p) v 0 within ∙ entry ∙ ap (λ x. entry_of table x) before
    ∙ sym (ap (λ b. choice (eqb p p && b) (was k p)) now_it ∙ ap (λ b. choice (b && true) (was k p)) eq) in
    subst (λ (j' : ℕ). get_or (set now (k * planes + p) v) (j' * planes + q) 0
    ≡ choice (eqb q p && is_column from (min (k + pitch) to) pitch j') (was j' q)) (sym column)
    (subst (λ (q' : ℕ). get_or (set now (k * planes + p) v) (k * planes + q') 0
    ≡ choice (eqb q' p && is_column from (min (k + pitch) to) pitch k) (was k q')) (sym same) here))
    (λ (other : q ≢ p).
    let ne : eqb q p ≡ false = grind (arith, nat_tests) in
    get_or-set_other now (k * planes + p) (j * planes + q) v 0 (λ e. other (apart j q k p planes plane' plane e).1)
    ∙ done j q plane'
    ∙ ap (λ b. choice (b && is_column from (min k to) pitch j) (was j q)) ne
    ∙ sym (ap (λ b. choice (b && is_column from (min (k + pitch) to) pitch j) (was j q)) ne))
    (cases_eq q p))
    (λ (other : j ≢ k).
    get_or-set_other now (k * planes + p) (j * planes + q) v 0 (λ e. other (apart j q k p planes plane' plane e).0)
    ∙ done j q plane'
    ∙ ap (λ b. choice (eqb q p && b) (was j q)) (sym (column_more from to pitch k j some above step below other)))
    (cases_eq j k)

-- the column after the last one that is mapped is at the pitch too
pub next_step : (from k pitch : ℕ) → 0 < pitch → from ≤ k → (k - from) % pitch ≡ 0 → (k + pitch - from) % pitch ≡ 0
next_step from k pitch some above step =
    let same : k + pitch - from ≡ (k - from) + pitch = omega arith in
    ap (λ n. n % pitch) same ∙ next_mod (k - from) pitch pitch some (omega arith)
