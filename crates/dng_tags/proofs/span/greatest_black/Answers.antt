use Rattle.std.proofs.Common.{◌≡◌, ◌+◌, ℤ, arith, subst, sym, ◌∙◌, ap, min}
use Rattle.std.specs.Int.{w64, cast_signed, cast_unsigned, int_max}
use Rattle.std.proofs.lemmas.Int.{ints, clamps}
use Rattle.dng_tags.specs.inner.Span.{FallsBefore, IsGreatestBlack}
use Rattle.dng_tags.proofs.SpanLemmas.{black_first, black_more, greatest_black_is}
use Rattle.dng_tags.proofs.span.greatest_black.Goals as goal

pub loop-i-init : goal.loop-i-init
loop-i-init c =
    let levels = c.args.levels.now in
    let same : cast_signed w64 (cast_unsigned w64 c.greatest_in_rows-most.result) ≡ c.greatest_in_rows-most.result =
    omega (arith, ints) in
    let P : ℤ → Type 0 = λ most. IsGreatestBlack (FallsBefore c.args.rows levels.black_rows 1) levels c.args.cols most
    in
    record {
      greatest = subst P (sym same)
          (black_first c.args.rows levels.black_rows c.args.cols levels c.greatest_in_rows-most.result
          c.greatest_in_rows-most.ensures.greatest);
      low = omega (arith, ints);
      high = omega (arith, ints);
    }

pub loop-i-preserved : goal.loop-i-preserved
loop-i-preserved c =
    let levels = c.args.levels.now in
    let most = cast_signed w64 c.loop-i.most-bits in
    let outer : cast_signed w64 (cast_unsigned w64 c.max-most.result) ≡ c.max-most.result = omega (arith, ints) in
    let here : cast_signed w64 (cast_unsigned w64 c.greatest_in_rows.result) ≡ c.greatest_in_rows.result =
    omega (arith, ints) in
    let same : cast_signed w64 (cast_unsigned w64 c.max-most.result) ≡ int_max most c.greatest_in_rows.result =
    outer ∙ (c.max-most.ensures.value ∙ ap (int_max most) here) in
    let P : ℤ → Type 0 = λ value. IsGreatestBlack (FallsBefore c.args.rows levels.black_rows (c.loop-i.i + 1)) levels
    c.args.cols value in
    record {
      greatest = subst P (sym same)
          (black_more c.args.rows levels.black_rows c.loop-i.i c.args.cols levels most c.greatest_in_rows.result
          c.loop-i.invariant.greatest c.greatest_in_rows.ensures.greatest);
      low = omega (arith, ints, clamps, same);
      high = omega (arith, ints, clamps, same);
    }

pub returns-clause-value : goal.returns-clause-value
returns-clause-value c =
    let levels = c.args.levels.now in
    let end : c.loop-i.i ≡ min levels.black_rows c.args.rows = omega arith in
    sym (greatest_black_is levels c.args.rows c.args.cols c.loop-i.i (cast_signed w64 c.loop-i.most-bits) end
    c.requires.ranged.pattern.some_rows c.requires.some_cols c.loop-i.invariant.greatest)
