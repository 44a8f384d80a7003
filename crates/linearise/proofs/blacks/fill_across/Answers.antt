use Rattle.std.proofs.Common.{◌≡◌, ℕ, ◌<◌, ◌/◌, ◌%◌, pos, get_or, set, to_z, of_z, length, arith, below_more, subst}
use Rattle.std.proofs.Common.{sym, ◌≢◌, get_or-set_other, get_or-set_same, ◌∙◌}
use Rattle.std.specs.Int.{w32}
use Rattle.std.proofs.lemmas.Int.{ints}
use Rattle.tag_rules.specs.Quantities.{IsWithin}
use Rattle.dng_tags.specs.Black.{across_at}
use Rattle.linearise.proofs.blacks.fill_across.Goals as goal

pub loop-k-preserved : goal.loop-k-preserved
loop-k-preserved c =
    let k = c.loop-k.k in
    let out = c.loop-k.out in
    let v = to_z w32 (of_z w32 c.across_of.result) in
    let same : v ≡ c.across_of.result = omega (arith, ints, c.across_of.ensures.within) in
    let within : k < length out = omega arith in
    let here : get_or (set out k v) k (pos 0) ≡ c.across_of.result = get_or-set_same out k v (pos 0) within ∙ same in
    let other = λ (j : ℕ) (below : j < k). let ne : j ≢ k = omega arith in get_or-set_other out k j v (pos 0) ne in
    record {
      within = below_more (λ j. IsWithin 33554432 (get_or (set out k v) j (pos 0))) k
          (λ j below. subst (IsWithin 33554432) (sym (other j below)) (c.loop-k.invariant.within j below))
          (subst (IsWithin 33554432) (sym here) c.across_of.ensures.within);
      levels = below_more (λ j. get_or (set out k v) j (pos 0) ≡ across_at c.args.levels.now (j / c.args.cols)
          (j % c.args.cols)) k
          (λ j below. other j below ∙ c.loop-k.invariant.levels j below)
          (here ∙ c.across_of.ensures.value);
    }
