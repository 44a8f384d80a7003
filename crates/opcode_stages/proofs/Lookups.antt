-- Looking up places.
use Rattle.std.proofs.Common.{◌≡◌, ℕ, ◌-◌, ◌<◌, ◌≤◌, ◌==◌, ◌≢◌, true, false, List, length, get_or, Option, refl}
use Rattle.std.proofs.Common.{sym, ◌∙◌, ap, subst, inl, inr, ⊎_elim, arith}
use Rattle.std.specs.List.{list_any, slice_get}
use Rattle.std.specs.List.Sorted.{IsNonDecreasing}
use Rattle.std.proofs.lemmas.Option.{slice_get-get_or, slice_get_past}
use Rattle.std.proofs.lemmas.List.Folds.{list_any_none, list_any_at}
use Rattle.std.proofs.lemmas.List.Elements.{All-from_get_or}
use Rattle.std.proofs.lemmas.Bool.{cases_lt, cases_eq}
use Rattle.std.proofs.lemmas.Bool.Decides.{nat_tests, Decides-eqb}
use Rattle.opcode_stages.specs.inner.Places.{place_of, IsLeastFrom, IsFirstPlace}
use Rattle.opcode_stages.specs.inner.MendRows.{IsNextBad}

-- what no element is
pub has_none : (xs : List ℕ) (at : ℕ) → ((k : ℕ) → k < length xs → get_or xs k 0 ≢ at)
    → list_any (λ x. x == at) xs ≡ false
has_none xs at none =
    list_any_none (λ x. x == at) xs
    (All-from_get_or (λ x. (x == at) ≡ false) xs 0 (λ k within. let no : get_or xs k 0 ≢ at = none k within in
    grind (arith, nat_tests)))

-- what an element is
pub has_one : (xs : List ℕ) (at k : ℕ) → k < length xs → get_or xs k 0 ≡ at → list_any (λ x. x == at) xs ≡ true
has_one xs at k within same = list_any_at (λ x. x == at) xs k 0 within ((Decides-eqb (get_or xs k 0) at).1 same)

-- the number at which those that aren't below begin
pub first_place : (xs : List ℕ) (low at : ℕ) → IsNonDecreasing xs → at ≤ length xs
    → ((k : ℕ) → k < at → get_or xs k 0 < low)
    → ((k : ℕ) → at ≤ k → k < length xs → low < get_or xs k 0) → IsFirstPlace xs low (slice_get xs at)
first_place xs low at rising upto below above =
    ⊎_elim
    (λ (within : at < length xs).
    subst (λ (o : Option ℕ). IsFirstPlace xs low o) (sym (slice_get-get_or xs at 0 within))
    (record {
      not_below = (let more = above at (omega arith) within in omega arith);
      listed = has_one xs (get_or xs at 0) at within refl;
      least = λ k inside.
          ⊎_elim (λ (lt : k < at). inl (below k lt)) (λ (ge : at ≤ k). inr (rising at k 0 ge inside)) (cases_lt k at);
    }))
    (λ (past : length xs ≤ at).
    subst (λ (o : Option ℕ). IsFirstPlace xs low o) (sym (slice_get_past xs at past))
    (λ k inside. below k (omega arith)))
    (cases_lt at (length xs))

-- whether a number is there, by the least one that isn't below it
pub has_least : (xs : List ℕ) (at next : ℕ) → IsLeastFrom xs at next → (next == at) ≡ list_any (λ x. x == at) xs
has_least xs at next is =
    ⊎_elim
    (λ (same : next ≡ at). (Decides-eqb next at).1 same ∙ sym (ap (λ n. list_any (λ x. x == n) xs) (sym same)
    ∙ is.listed))
    (λ (other : next ≢ at).
    let not_below = is.not_below in
    let differs : (next == at) ≡ false = grind (arith, nat_tests) in
    differs ∙ sym (has_none xs at (λ k within same. ⊎_elim (λ (lt : get_or xs k 0 < at). absurd (omega arith))
    (λ (ge : next ≤ get_or xs k 0). absurd (omega arith)) (is.least k within))))
    (cases_eq next at)

pub has_past : (xs : List ℕ) (at : ℕ) → ((k : ℕ) → k < length xs → get_or xs k 0 < at)
    → false ≡ list_any (λ x. x == at) xs
has_past xs at below = sym (has_none xs at (λ k within same. let lt : get_or xs k 0 < at = below k within in
    absurd (omega arith)))

-- the next column of a row
pub next_found : (xs : List ℕ) (r from to next : ℕ) → IsLeastFrom xs (place_of r from) next → next < place_of r to
    → IsNextBad (λ c. list_any (λ x. x == place_of r c) xs) from to (next - place_of r 0)
next_found xs r from to next is below =
    let not_below = is.not_below in
    let there : place_of r (next - place_of r 0) ≡ next = omega arith in
    record {
      not_before = omega arith;
      not_past = omega arith;
      good = λ c above before.
          has_none xs (place_of r c)
          (λ k within same. ⊎_elim (λ (lt : get_or xs k 0 < place_of r from). absurd (omega arith))
          (λ (ge : next ≤ get_or xs k 0). absurd (omega arith)) (is.least k within));
      found = λ inside. ap (λ n. list_any (λ x. x == n) xs) there ∙ is.listed;
    }

-- no column up to the end
pub next_past : (xs : List ℕ) (r from to next : ℕ) → from ≤ to → IsLeastFrom xs (place_of r from) next
    → place_of r to ≤ next → IsNextBad (λ c. list_any (λ x. x == place_of r c) xs) from to to
next_past xs r from to next order is past = record {
  not_before = order;
  not_past = omega arith;
  good = λ c above before.
      has_none xs (place_of r c)
      (λ k within same. ⊎_elim (λ (lt : get_or xs k 0 < place_of r from). absurd (omega arith))
      (λ (ge : next ≤ get_or xs k 0). absurd (omega arith)) (is.least k within));
  found = λ inside. absurd (omega arith);
}

pub next_none : (xs : List ℕ) (r from to : ℕ) → from ≤ to → ((k : ℕ) → k < length xs → get_or xs k 0 < place_of r from)
    → IsNextBad (λ c. list_any (λ x. x == place_of r c) xs) from to to
next_none xs r from to order below = record {
  not_before = order;
  not_past = omega arith;
  good = λ c above before. has_none xs (place_of r c) (λ k within same. let lt : get_or xs k 0 < place_of r from = below
      k within in absurd (omega arith));
  found = λ inside. absurd (omega arith);
}
