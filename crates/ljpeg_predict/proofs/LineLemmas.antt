-- Numbers of a line that are replaced from the left on.
use Rattle.std.proofs.Common.{◌≡◌, ◌≢◌, ℕ, ◌+◌, ◌-◌, ◌%◌, ◌^◌, ◌<◌, ◌≤◌, inl, inr, Bool, true, false, cond, ltb, pos}
use Rattle.std.proofs.Common.{◌+ℤ◌, ap₂, List, length, get_or, set, refl, sym, ap, ◌∙◌, subst, arith, get_or-set_other}
use Rattle.std.proofs.Common.{get_or-set_same}
use Rattle.std.proofs.lemmas.Bool.{cases_lt, cond-true, cond-false, lt-ltb, le-ltb}
use Rattle.ljpeg_huffman.specs.Differences.{modulo}
use Rattle.ljpeg_predict.specs.inner.Lines.{IsFirstLine, IsNextLine}
use Rattle.ljpeg_predict.specs.Prediction.{predicted}
use Rattle.ljpeg_predict.specs.declared.scan.Predictor.{Predictor}
use Rattle.ljpeg_predict.proofs.ModuloLemmas.{modulo-add}

-- From `from` on, the numbers below a place are a prediction plus what stood there; the others are as they were.
pub record SoFar (R : List ℕ → ℕ → ℕ → Type 0) (from : ℕ) (numbers line : List ℕ) (place : ℕ) : Type 0 where
  pub done : (k : ℕ) → from ≤ k → k < place
      → (p : ℕ) × R line k p × (get_or line k 0 ≡ (p + get_or numbers k 0) % 2 ^ 16)
  pub before : (k : ℕ) → k < from → get_or line k 0 ≡ get_or numbers k 0
  pub left : (k : ℕ) → place ≤ k → get_or line k 0 ≡ get_or numbers k 0

pub none_so_far : (R : List ℕ → ℕ → ℕ → Type 0) (from : ℕ) (line : List ℕ) → SoFar R from line line from
none_so_far R from line = record {
  done = λ k h low. absurd (omega arith);
  before = λ k h. refl;
  left = λ k h. refl;
}

-- one more number is replaced, where predictions don't look at its place
pub more_so_far : (R : List ℕ → ℕ → ℕ → Type 0) (from : ℕ) (numbers line : List ℕ) (place p v : ℕ) → from ≤ place
    → place < length line → ((k q : ℕ) → from ≤ k → k ≤ place → R line k q → R (set line place v) k q) → R line place p
    → v ≡ (p + get_or line place 0) % 2 ^ 16 → SoFar R from numbers line place
    → SoFar R from numbers (set line place v) (place + 1)
more_so_far R from numbers line place p v low h stable r is s = record {
  done = λ k a b. elim (cases_lt k place) [
    | inl less ↦
        let apart : k ≢ place = omega arith in
        let t = s.done k a less in
        (t.0, stable k t.0 a (omega arith) t.1, get_or-set_other line place k v 0 apart ∙ t.2)
    | inr more ↦
        let same : k ≡ place = omega arith in
        subst (λ (n : ℕ). (q : ℕ) × R
        (set line place v) n q × (get_or (set line place v) n 0 ≡ (q + get_or numbers n 0) % 2 ^ 16)) (sym same) (
          p,
          stable place p low (omega arith) r,
          get_or-set_same line place v 0 h ∙ is ∙ ap (λ n. (p + n) % 2 ^ 16)
              (s.left place (omega arith)),
        )
  ];
  before = λ k a. let apart : k ≢ place = omega arith in get_or-set_other line place k v 0 apart ∙ s.before k a;
  left = λ k a. let apart : k ≢ place = omega arith in get_or-set_other line place k v 0 apart ∙ s.left k (omega arith);
}

cond-pos : (b : Bool) (m n : ℕ) → pos (cond b m n) ≡ cond b (pos m) (pos n)
cond-pos true m n = refl
cond-pos false m n = refl

pub first_line_is : (start step size : ℕ) (numbers line : List ℕ) → length line ≤ size
    → SoFar (λ line k p. p ≡ cond (ltb k step) start (get_or line (k - step) 0)) 0 numbers line size
    → IsFirstLine start step numbers line
first_line_is start step size numbers line long s place h =
    let t = s.done place (omega arith) (omega arith) in
    t.2 ∙ ap (λ n. (n + get_or numbers place 0) % 2 ^ 16) t.1
    ∙ ap (λ z. modulo (z +ℤ pos (get_or numbers place 0)))
    (cond-pos (ltb place step) start (get_or line (place - step) 0))

-- where predictions of one line come from
pub stable : (i place v : ℕ) (line : List ℕ) → i < place → get_or (set line place v) i 0 ≡ get_or line i 0
stable i place v line h = let apart : i ≢ place = omega arith in get_or-set_other line place i v 0 apart

pub stable_first : (start step place v : ℕ) (line : List ℕ) → 0 < step → (k q : ℕ) → 0 ≤ k → k ≤ place
    → q ≡ cond (ltb k step) start (get_or line (k - step) 0)
    → q ≡ cond (ltb k step) start (get_or (set line place v) (k - step) 0)
stable_first start step place v line some k q low h e =
    elim (cases_lt k step) [
      | inl less ↦ e ∙ cond-true _ _ _ (lt-ltb k step less) ∙ sym (cond-true _ _ _ (lt-ltb k step less))
      | inr more ↦
          let far : k - step < place = omega arith in
          e ∙ cond-false _ _ _ (le-ltb k step more) ∙ sym (stable (k - step) place v line far)
          ∙ sym (cond-false _ _ _ (le-ltb k step more))
    ]

-- a sample and what stood at its place
pub next_line_is : (predictor : Predictor) (step size : ℕ) (above numbers middle line : List ℕ) → length line ≡ size
    → ((k : ℕ) → k < step → get_or middle k 0 ≡ (get_or above k 0 + get_or numbers k 0) % 2 ^ 16)
    → ((k : ℕ) → step ≤ k → get_or middle k 0 ≡ get_or numbers k 0)
    → ((k : ℕ) → k < step → get_or line k 0 ≡ get_or middle k 0)
    → ((k : ℕ) → step ≤ k → k < size
    → (p : ℕ) × (p ≡ modulo (predicted predictor (get_or line (k - step) 0) (get_or above k 0)
    (get_or above (k - step) 0))) × (get_or line k 0 ≡ (p + get_or middle k 0) % 2 ^ 16))
    → IsNextLine predictor step above numbers line
next_line_is predictor step size above numbers middle line long first others kept inner place h =
    let z = predicted predictor (get_or line (place - step) 0) (get_or above place 0) (get_or above (place - step) 0) in
    elim (cases_lt place step) [
      | inl less ↦ kept place less ∙ first place less
          ∙ ap (λ y. modulo (y +ℤ pos (get_or numbers place 0))) (sym (cond-true _ _ _ (lt-ltb place step less)))
      | inr more ↦
          let t = inner place more (omega arith) in
          t.2 ∙ ap₂ (λ p n. (p + n) % 2 ^ 16) t.1 (others place more) ∙ modulo-add z (get_or numbers place 0)
          ∙ ap (λ y. modulo (y +ℤ pos (get_or numbers place 0))) (sym (cond-false _ _ _ (le-ltb place step more)))
    ]
