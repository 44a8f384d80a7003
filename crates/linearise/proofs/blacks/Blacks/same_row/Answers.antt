use Rattle.std.proofs.Common.{◌≡◌, ℕ, ◌<◌, ◌%◌, ◌*◌, ◌+◌, pos, get_or, to_z, of_z, sym, ◌∙◌, arith, ap}
use Rattle.std.specs.Prelude.{◌+ℤ◌}
use Rattle.std.specs.Int.{w32}
use Rattle.std.proofs.lemmas.Int.{ints}
use Rattle.linearise.specs.inner.Held.{black_in}
use Rattle.linearise.proofs.blacks.Blacks.same_row.Goals as goal

pub returns : goal.returns
returns c =
    let a = c.args.self.now in
    let b = c.args.other.now in
    let r = c.args.r in
    let one = to_z w32 (of_z w32 c.down.result) in
    let other = to_z w32 (of_z w32 c.down-2.result) in
    let one_is : one ≡ c.down.result = omega (arith, ints, c.down.ensures.within) in
    let other_is : other ≡ c.down-2.result = omega (arith, ints, c.down-2.ensures.within) in
    let left : (k : ℕ) → k < a.cols → get_or c.row.result.now k (pos 0) +ℤ one ≡ black_in a r k =
    λ k h. let plain : 0 + k ≡ k = omega arith in
    (λ i. (c.row.ensures.levels k (omega arith) ∙ ap (λ n. get_or a.across (r % a.repeat * a.cols + n) (pos 0))
    plain) i +ℤ (one_is ∙ c.down.ensures.value) i) in
    let right : (k : ℕ) → k < a.cols → get_or c.row-2.result.now k (pos 0) +ℤ other ≡ black_in b r k =
    λ k h. let plain : 0 + k ≡ k = omega arith in
    (λ i. (c.row-2.ensures.levels k (omega (arith, c.requires.cols))
    ∙ ap (λ n. get_or b.across (r % b.repeat * b.cols + n) (pos 0)) plain) i +ℤ (other_is ∙ c.down-2.ensures.value)
    i) in (
      λ yes k h. sym (left k h) ∙ c.same_sums.ensures.0 yes k (omega (arith, c.row.ensures.long)) ∙ right k h,
      λ same. c.same_sums.ensures.1 (λ k h. let within : k < a.cols = omega (arith, c.row.ensures.long) in left k within
          ∙ same k within ∙ sym (right k within)),
    )
