use Rattle.std.proofs.Common.{ℕ, ◌==◌, List, sym, ◌∙◌, ap, subst}
use Rattle.std.specs.List.{list_any}
use Rattle.std.specs.List.Sorted.{IsNonDecreasing}
use Rattle.std.proofs.lemmas.List.{take_all}
use Rattle.std.proofs.lemmas.List.Sorted.{IsNonDecreasingBy-from_sort, list_any-IsPermutation}
use Rattle.opcode_stages.specs.Mends.{is_point}
use Rattle.opcode_stages.specs.inner.Places.{place_of}
use Rattle.opcode_stages.proofs.places.Places.new.Goals as goal

pub invariant_of-result : goal.invariant_of-result
invariant_of-result c = record {
  rising = subst IsNonDecreasing (sym c.from_vec.ensures)
      (IsNonDecreasingBy-from_sort (λ (x : ℕ). x) c.sort_unstable.new.self.items c.sort_unstable.ensures.sorted);
}

pub returns : goal.returns
returns c = λ r column small.
    let is = λ (x : ℕ). x == place_of r column in
    ap (λ (xs : List ℕ). list_any is xs) c.from_vec.ensures
    ∙ sym (list_any-IsPermutation is c.loop-point.places.items c.sort_unstable.new.self.items
    c.sort_unstable.ensures.permutation)
    ∙ c.loop-point.invariant r column small
    ∙ ap (λ (xs : List (ℕ × ℕ)). is_point xs r column)
    (take_all c.loop-point.point-index c.args.points.now c.loop-point-test.false)
