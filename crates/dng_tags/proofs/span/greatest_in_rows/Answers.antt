use Rattle.std.proofs.Common.{◌≡◌, ◌+◌, ℤ, arith, subst, sym, ◌∙◌, ap, min}
use Rattle.std.specs.Prelude.{◌+ℤ◌}
use Rattle.std.specs.Int.{w64, cast_signed, cast_unsigned, int_max}
use Rattle.std.proofs.lemmas.Int.{ints, clamps}
use Rattle.dng_tags.specs.Black.{across_at}
use Rattle.dng_tags.specs.inner.Span.{FallsBefore, FallsOn, IsGreatest, IsGreatestBlack}
use Rattle.dng_tags.proofs.SpanLemmas.{greatest_first, greatest_more, rows_greatest}
use Rattle.dng_tags.proofs.span.greatest_in_rows.Goals as goal

pub loop-j-init : goal.loop-j-init
loop-j-init c =
    let levels = c.args.levels.now in
    let same : cast_signed w64 (cast_unsigned w64 c.greatest_of_place-most.result) ≡ c.greatest_of_place-most.result =
    omega (arith, ints) in
    let P : ℤ → Type 0 = λ most. IsGreatest (FallsBefore c.args.cols levels.black_cols 1)
    (across_at levels c.args.i) most in
    record {
      greatest = subst P (sym same)
          (greatest_first c.args.cols levels.black_cols (across_at levels c.args.i) c.greatest_of_place-most.result
          c.greatest_of_place-most.ensures.greatest);
      low = omega (arith, ints);
      high = omega (arith, ints);
    }

pub loop-j-preserved : goal.loop-j-preserved
loop-j-preserved c =
    let levels = c.args.levels.now in
    let outer : cast_signed w64 (cast_unsigned w64 c.max-most.result) ≡ c.max-most.result = omega (arith, ints) in
    let here : cast_signed w64 (cast_unsigned w64 c.greatest_of_place.result) ≡ c.greatest_of_place.result =
    omega (arith, ints) in
    let same : cast_signed w64 (cast_unsigned w64 c.max-most.result) ≡ int_max (cast_signed w64 c.loop-j.most-bits)
    c.greatest_of_place.result =
    outer ∙ (c.max-most.ensures.value ∙ ap (int_max (cast_signed w64 c.loop-j.most-bits)) here) in
    let P : ℤ → Type 0 = λ most. IsGreatest (FallsBefore c.args.cols levels.black_cols (c.loop-j.j + 1))
    (across_at levels c.args.i) most in
    record {
      greatest = subst P (sym same)
          (greatest_more c.args.cols levels.black_cols c.loop-j.j (across_at levels c.args.i)
          (cast_signed w64 c.loop-j.most-bits) c.greatest_of_place.result c.loop-j.invariant.greatest
          c.greatest_of_place.ensures.greatest);
      low = omega (arith, ints, clamps, same);
      high = omega (arith, ints, clamps, same);
    }

pub returns-clause-greatest : goal.returns-clause-greatest
returns-clause-greatest c =
    let levels = c.args.levels.now in
    let most = cast_signed w64 c.loop-j.most-bits in
    let sum : cast_signed w64 (cast_unsigned w64 (most +ℤ cast_signed w64 (cast_unsigned w64 c.from.result)))
    ≡ most +ℤ c.greatest_delta-down.result = omega (arith, ints) in
    let P : ℤ → Type 0 = λ value. IsGreatestBlack (FallsOn c.args.rows levels.black_rows c.args.i) levels c.args.cols
    value in
    let end : c.loop-j.j ≡ min levels.black_cols c.args.cols = omega arith in
    subst P (sym sum)
    (rows_greatest levels c.args.rows c.args.cols c.args.i c.loop-j.j most c.greatest_delta-down.result end
    c.requires.ranged.pattern.some_cols c.loop-j.invariant.greatest c.greatest_delta-down.ensures.greatest)

pub returns-clause-low : goal.returns-clause-low
returns-clause-low c = omega (arith, ints)

pub returns-clause-high : goal.returns-clause-high
returns-clause-high c = omega (arith, ints)
