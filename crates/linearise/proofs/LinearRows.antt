-- Rows of linear values, sample by sample.
use Rattle.std.proofs.Common.{◌≡◌, ◌≢◌, ℕ, ◌+◌, ◌*◌, ◌<◌, ℤ, pos, List, length, get_or, set, inl, inr, ◌∙◌, ap, arith}
use Rattle.std.proofs.Common.{get_or-set_other, get_or-set_same}
use Rattle.std.specs.Prelude.{◌+ℤ◌, ◌-ℤ◌}
use Rattle.std.proofs.lemmas.Bool.{cases_lt}
use Rattle.linearise.specs.Linear.{linear_at, rescaled}
use Rattle.linearise.specs.inner.Rows.{IsLinearTo}

-- one more sample of a row has become a linear value
pub linear_more : (span : ℕ) (across : List ℤ) (down : ℤ) (old xs : List ℕ) (k : ℕ) (above : ℤ) (v : ℕ) → k < length xs
    → IsLinearTo span across down old xs k
    → v ≡ rescaled (pos span) above → above ≡ pos (256 * get_or xs k 0) -ℤ (get_or across k (pos 0) +ℤ down)
    → IsLinearTo span across down old (set xs k v) (k + 1)
linear_more span across down old xs k above v within is value level = record {
  done = λ j before.
      elim (cases_lt j k) [
        | inl below ↦
            let ne : j ≢ k = omega arith in
            get_or-set_other xs k j v 0 ne ∙ is.done j below
        | inr here ↦
            let same : j ≡ k = omega arith in
            rw same (get_or-set_same xs k v 0 within ∙ value ∙ ap (λ z. rescaled (pos span) z) level
            ∙ ap (λ m. linear_at (pos span) (get_or across k (pos 0) +ℤ down) m) (is.left k (omega arith)))
      ];
  left = λ j after.
      let ne : j ≢ k = omega arith in
      get_or-set_other xs k j v 0 ne ∙ is.left j (omega arith);
}
