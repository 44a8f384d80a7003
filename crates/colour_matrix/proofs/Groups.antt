-- A row that is balanced group by group.
use Rattle.std.proofs.Common.{◌≡◌, ℕ, ◌+◌, ◌-◌, ◌*◌, ◌%◌, ◌≤◌, List, length, get_or, sym, ◌∙◌, ap, inl, inr, arith}
use Rattle.std.proofs.lemmas.Bool.{cases_lt}
use Rattle.std.proofs.lemmas.List.Edits.{get_or-between, length-between}
use Rattle.std.specs.List.{between}
use Rattle.std.specs.Prelude.{slice_index}
use borrow.Rule.Slice.PartMut.{put_mid}
use Rattle.plane_view.proofs.Writes.{before_mid, in_mid}
use Rattle.colour_matrix.specs.Balances.{Balancing, balanced_value}
use Rattle.colour_matrix.specs.inner.BalanceRows.{HasBalanced, AreBalanced}

-- one more group of samples, of which the first is that of a pixel
pub group_more : (s : Balancing) (from out part : List ℕ) (group at k to : ℕ) → at ≡ group * 384 → to ≡ at + k
    → to ≤ length from → at ≤ length out → length part ≡ k → AreBalanced s (between at to from) part
    → HasBalanced s from out at → HasBalanced s from (put_mid at k out part) to
group_more s from out part group at k to place end within room long has before i below =
    elim (cases_lt i at) [
      | inl lower ↦ before_mid at k out part i lower room ∙ before i lower
      | inr here ↦
          let j = i - at in
          let is : i ≡ at + j = omega arith in
          let count : length (between at to from) ≡ to - at = length-between from at to within in
          let plane : j % 3 ≡ i % 3 = omega arith in
          ap (λ n. get_or (put_mid at k out part) n 0) is
          ∙ in_mid at k out part j room (omega arith)
          ∙ has j (omega arith)
          ∙ (λ z. balanced_value (slice_index s.gains (plane z)) s.exposure
          (get_or-between from at to j 0 (omega arith) z))
          ∙ ap (λ n. balanced_value (slice_index s.gains (i % 3)) s.exposure (get_or from n 0)) (sym is)
    ]
