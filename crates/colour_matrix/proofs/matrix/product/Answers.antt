use Rattle.std.proofs.Common.{◌≡◌, rules, pos, ◌+◌, ◌*◌, ◌∙◌, ◌+ℤ◌, ◌*ℤ◌, w32, SFits, slice_index_or, arith}
use Rattle.std.specs.Int.{int_div_euclid}
use Rattle.std.proofs.lemmas.Int.{ints, to_z-of_z}
use Rattle.colour_matrix.proofs.Raised.{IsTerm, forward_in_32, sum_in_64, sum_within}
use Rattle.colour_matrix.proofs.matrix.product.Goals as goal

pub term-third-requires-clause-entry : goal.term-third-requires-clause-entry
term-third-requires-clause-entry c =
    forward_in_32 (slice_index_or c.args.f.now (6 + c.args.column) (pos 0))
    (c.requires.entries (6 + c.args.column) (pos 0) (omega arith))

pub overflow_add-first : goal.overflow_add-first
overflow_add-first c = omega (arith, ints)

pub overflow_add-first-2 : goal.overflow_add-first-2
overflow_add-first-2 c = omega (arith, ints)

pub rounded-requires-clause-low : goal.rounded-requires-clause-low
rounded-requires-clause-low c =
    let a : IsTerm c.term-first.result = record { low = c.term-first.ensures.low; high = c.term-first.ensures.high } in
    let b : IsTerm c.term-second.result = record { low = c.term-second.ensures.low; high = c.term-second.ensures.high }
    in
    let d : IsTerm c.term-third.result = record { low = c.term-third.ensures.low; high = c.term-third.ensures.high } in
    (sum_within c.term-first.result c.term-second.result c.term-third.result _ a b d
    (sum_in_64 c.term-first.result c.term-second.result c.term-third.result a b d)).0

pub rounded-requires-clause-high : goal.rounded-requires-clause-high
rounded-requires-clause-high c =
    let a : IsTerm c.term-first.result = record { low = c.term-first.ensures.low; high = c.term-first.ensures.high } in
    let b : IsTerm c.term-second.result = record { low = c.term-second.ensures.low; high = c.term-second.ensures.high }
    in
    let d : IsTerm c.term-third.result = record { low = c.term-third.ensures.low; high = c.term-third.ensures.high } in
    (sum_within c.term-first.result c.term-second.result c.term-third.result _ a b d
    (sum_in_64 c.term-first.result c.term-second.result c.term-third.result a b d)).1

pub returns-clause-value : goal.returns-clause-value
returns-clause-value c =
    let f = c.args.f.now in
    let row = c.args.row in
    let k = c.args.column in
    let a : IsTerm c.term-first.result = record { low = c.term-first.ensures.low; high = c.term-first.ensures.high } in
    let b : IsTerm c.term-second.result = record { low = c.term-second.ensures.low; high = c.term-second.ensures.high }
    in
    let d : IsTerm c.term-third.result = record { low = c.term-third.ensures.low; high = c.term-third.ensures.high } in
    let sum = sum_in_64 c.term-first.result c.term-second.result c.term-third.result a b d in
    let at_0 : k ≡ 0 * 3 + k = omega arith in
    let at_1 : 3 + k ≡ 1 * 3 + k = omega arith in
    let at_2 : 6 + k ≡ 2 * 3 + k = omega arith in
    let row_0 : SFits w32 (slice_index_or row 0 (pos 0)) = search rules in
    let row_1 : SFits w32 (slice_index_or row 1 (pos 0)) = search rules in
    let row_2 : SFits w32 (slice_index_or row 2 (pos 0)) = search rules in
    let f_0 : SFits w32 (slice_index_or f k (pos 0)) = search rules in
    let f_1 : SFits w32 (slice_index_or f (3 + k) (pos 0)) = search rules in
    let f_2 : SFits w32 (slice_index_or f (6 + k) (pos 0)) = search rules in
    let first : c.term-first.result ≡ slice_index_or row 0 (pos 0) *ℤ slice_index_or f k (pos 0) =
    c.term-first.ensures.value
    ∙ (λ i. to_z-of_z w32 (slice_index_or row 0 (pos 0)) row_0 i *ℤ to_z-of_z w32 (slice_index_or f k (pos 0)) f_0
    i) in
    let second : c.term-second.result ≡ slice_index_or row 1 (pos 0) *ℤ slice_index_or f (3 + k) (pos 0) =
    c.term-second.ensures.value
    ∙ (λ i. to_z-of_z w32 (slice_index_or row 1 (pos 0)) row_1 i *ℤ to_z-of_z w32 (slice_index_or f (3 + k) (pos 0))
    f_1 i) in
    let third : c.term-third.result ≡ slice_index_or row 2 (pos 0) *ℤ slice_index_or f (6 + k) (pos 0) =
    c.term-third.ensures.value
    ∙ (λ i. to_z-of_z w32 (slice_index_or row 2 (pos 0)) row_2 i *ℤ to_z-of_z w32 (slice_index_or f (6 + k) (pos 0))
    f_2 i) in
    to_z-of_z w32 c.rounded.result (search rules)
    ∙ c.rounded.ensures.value
    ∙ (λ i. int_div_euclid (sum i +ℤ pos 5000) (pos 10000))
    ∙ (λ i. int_div_euclid (first i +ℤ second i +ℤ third i +ℤ pos 5000) (pos 10000))
    ∙ (λ i. int_div_euclid (slice_index_or row 0 (pos 0) *ℤ slice_index_or f (at_0 i) (pos 0) +ℤ slice_index_or row 1
    (pos 0) *ℤ slice_index_or f (at_1 i) (pos 0) +ℤ slice_index_or row 2 (pos 0) *ℤ slice_index_or f (at_2 i)
    (pos 0) +ℤ pos 5000) (pos 10000))
