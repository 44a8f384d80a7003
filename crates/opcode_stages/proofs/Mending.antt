-- How a bad pixel, and a row, is mended.
use Rattle.std.proofs.Common.{◌≡◌, ℕ, ◌+◌, ◌-◌, ◌*◌, ◌/◌, ◌<◌, ◌≤◌, ◌==◌, ◌≢◌, Bool, true, false, if◌then◌else◌, List}
use Rattle.std.proofs.Common.{length, take, get_or, refl, set, Some, None, sym, ◌∙◌, ap, subst, ⊎_elim, arith}
use Rattle.std.proofs.Common.{get_or-set_same, get_or-set_other, add-zero, ◌⊎◌}
use Rattle.std.proofs.lemmas.List.Sums.{sum_by_more}
use Rattle.std.proofs.lemmas.List.{take_all}
use Rattle.std.proofs.lemmas.Bool.{cases_Bool, cases_order}
use Rattle.std.proofs.lemmas.Bool.Decides.{nat_tests}
use Rattle.opcode_stages.specs.declared.steps.Step.{Step}
use Rattle.opcode_stages.specs.Mends.{is_green, steps_of, row_after, col_after, is_good, good_sum, good_count, mean_or}
use Rattle.opcode_stages.specs.Mends.{mended_at}
use Rattle.opcode_stages.specs.inner.MendRows.{IsNextBad, IsMendedTo}

-- how many good neighbours there are after some steps, and their sum
pub record Counted (bad : ℕ → ℕ → Bool) (rows cols : ℕ) (at : ℕ → ℕ → ℕ → ℕ) (r c : ℕ) (steps : List Step)
    (total number : ℕ) : Type 0 where
  pub count : number ≡ good_count bad rows cols r c steps
  pub sum : total ≡ good_sum bad rows cols at r c steps

-- one more neighbour, which is good
pub counted_good : (bad : ℕ → ℕ → Bool) (rows cols : ℕ) (at : ℕ → ℕ → ℕ → ℕ) (r c : ℕ) (steps : List Step) (i : ℕ)
    (d : Step) (total number v : ℕ) → i < length steps
    → Some v ≡ (if is_good bad rows cols r c (get_or steps i d) then Some
    (at (row_after r (get_or steps i d)) (col_after c (get_or steps i d)) 0) else None)
    → Counted bad rows cols at r c (take i steps) total number
    → Counted bad rows cols at r c (take (i + 1) steps) (total + v) (number + 1)
counted_good bad rows cols at r c steps i d total number v within is so_far =
    let step : Step = get_or steps i d in
    let x : ℕ = at (row_after r step) (col_after c step) 0 in
    let so : (is_good bad rows cols r c step ≡ true) × (v ≡ x) =
    ⊎_elim
    (λ (good : is_good bad rows cols r c step ≡ true). let e : Some v ≡ Some x = is
    ∙ ap (λ (b : Bool). if b then Some x else None) good in (good, cc))
    (λ (bad' : is_good bad rows cols r c step ≡ false). let e : Some v ≡ None = is
    ∙ ap (λ (b : Bool). if b then Some x else None) bad' in absurd (cc))
    (cases_Bool (is_good bad rows cols r c step)) in
    record {
      count = ap (λ n. n + 1) so_far.count
          ∙ sym (sum_by_more (λ s. if is_good bad rows cols r c s then 1 else 0) steps i d within
          ∙ ap (λ (b : Bool). good_count bad rows cols r c (take i steps) + (if b then 1 else 0)) so.0);
      sum = ap (λ n. n + v) so_far.sum ∙ ap (λ n. good_sum bad rows cols at r c (take i steps) + n) so.1
          ∙ sym (sum_by_more (λ s. if is_good bad rows cols r c s then at (row_after r s) (col_after c s) 0 else 0)
          steps i d within
          ∙ ap (λ (b : Bool). good_sum bad rows cols at r c (take i steps) + (if b then x else 0)) so.0);
    }

-- one more neighbour, which is not
pub counted_bad : (bad : ℕ → ℕ → Bool) (rows cols : ℕ) (at : ℕ → ℕ → ℕ → ℕ) (r c : ℕ) (steps : List Step) (i : ℕ)
    (d : Step) (total number : ℕ) → i < length steps
    → None ≡ (if is_good bad rows cols r c (get_or steps i d) then Some
    (at (row_after r (get_or steps i d)) (col_after c (get_or steps i d)) 0) else None)
    → Counted bad rows cols at r c (take i steps) total number → Counted bad rows cols at r c (take (i + 1) steps) total
    number
counted_bad bad rows cols at r c steps i d total number within is so_far =
    let step : Step = get_or steps i d in
    let x : ℕ = at (row_after r step) (col_after c step) 0 in
    let so : is_good bad rows cols r c step ≡ false =
    ⊎_elim
    (λ (good : is_good bad rows cols r c step ≡ true). let e : None ≡ Some x = is
    ∙ ap (λ (b : Bool). if b then Some x else None) good in absurd (cc))
    (λ (bad' : is_good bad rows cols r c step ≡ false). bad')
    (cases_Bool (is_good bad rows cols r c step)) in
    record {
      count = so_far.count ∙ sym (sum_by_more (λ s. if is_good bad rows cols r c s then 1 else 0) steps i d within
          ∙ ap (λ (b : Bool). good_count bad rows cols r c (take i steps) + (if b then 1 else 0)) so ∙ add-zero _);
      sum = so_far.sum ∙ sym (sum_by_more (λ s. if is_good bad rows cols r c s then at (row_after r s) (col_after c s)
          0 else 0) steps i d within
          ∙ ap (λ (b : Bool). good_sum bad rows cols at r c (take i steps) + (if b then x else 0)) so ∙ add-zero _);
    }

-- all neighbours are counted
pub mended_so : (bad : ℕ → ℕ → Bool) (phase rows cols : ℕ) (at : ℕ → ℕ → ℕ → ℕ) (r c : ℕ) (steps : List Step)
    (i total number : ℕ) → bad r c ≡ true → steps ≡ steps_of (is_green phase r c) → length steps ≤ i
    → Counted bad rows cols at r c (take i steps) total number → mean_or (at r c 0) total number
    ≡ mended_at bad phase rows cols at r c 0
mended_so bad phase rows cols at r c steps i total number is_bad all past so_far =
    let whole : take i steps ≡ steps_of (is_green phase r c) = take_all i steps past ∙ all in
    let count : number ≡ good_count bad rows cols r c (steps_of (is_green phase r c)) = so_far.count
    ∙ ap (λ xs. good_count bad rows cols r c xs) whole in
    let sum : total ≡ good_sum bad rows cols at r c (steps_of (is_green phase r c)) = so_far.sum
    ∙ ap (λ xs. good_sum bad rows cols at r c xs) whole in
    (λ i. mean_or (at r c 0) (sum i) (count i))
    ∙ sym (ap (λ (b : Bool). if b then mean_or (at r c 0)
    (good_sum bad rows cols at r c (steps_of (is_green phase r c)))
    (good_count bad rows cols r c (steps_of (is_green phase r c))) else at r c 0) is_bad)

-- the mean of some numbers
pub mean_of_some : (other total number : ℕ) → number ≢ 0 → (2 * total + number) / (2 * number)
    ≡ mean_or other total number
mean_of_some other total number some =
    let test : (number == 0) ≡ false = grind (arith, nat_tests) in
    sym (ap (λ (b : Bool). if b then other else (2 * total + number) / (2 * number)) test)

-- a row that is mended up to the next bad column
pub mended_more : (bad : ℕ → Bool) (mended was : ℕ → ℕ) (left right c next v : ℕ) (row : List ℕ)
    → ((k : ℕ) → bad k ≡ false → mended k ≡ was k) → left ≤ c → c < right → length row ≡ right - left → v ≡ mended c
    → IsNextBad bad (c + 1) right next → IsMendedTo mended was left right c row
    → IsMendedTo mended was left right next (set row (c - left) v)
mended_more bad mended was left right c next v row same above below long is_mended is_next held = record {
  done = λ k from upto.
      ⊎_elim
      (λ (here : k ≡ c). subst (λ (n : ℕ). get_or (set row (c - left) v) (n - left) 0 ≡ mended n) (sym here)
      (get_or-set_same row (c - left) v 0 (omega arith) ∙ is_mended))
      (λ (other : (k < c) ⊎ (c < k)).
      let apart : k - left ≢ c - left = λ e. ⊎_elim (λ (lt : k < c). absurd (omega arith))
      (λ (gt : c < k). absurd (omega arith)) other in
      get_or-set_other row (c - left) (k - left) v 0 apart
      ∙ ⊎_elim
      (λ (lt : k < c). held.done k from lt)
      (λ (gt : c < k).
      let past = is_next.not_past in
      held.rest k from (omega arith) (omega arith) ∙ sym (same k (is_next.good k (omega arith) upto)))
      other)
      (cases_order k c);
  rest = λ k from past upto.
      let not_before = is_next.not_before in
      let apart : k - left ≢ c - left = λ e. absurd (omega arith) in
      get_or-set_other row (c - left) (k - left) v 0 apart ∙ held.rest k from (omega arith) upto;
}

-- there are four steps
pub four_steps : (green : Bool) → length (steps_of green) ≡ 4
four_steps true = refl
four_steps false = refl
