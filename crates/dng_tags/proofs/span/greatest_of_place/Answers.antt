use Rattle.std.proofs.Common.{◌≡◌, ℤ, arith, subst, sym}
use Rattle.std.specs.Prelude.{◌+ℤ◌}
use Rattle.std.specs.Int.{w64, cast_signed, cast_unsigned}
use Rattle.std.proofs.lemmas.Int.{ints}
use Rattle.dng_tags.specs.Black.{across_at}
use Rattle.dng_tags.specs.inner.Span.{FallsOn, IsGreatest}
use Rattle.dng_tags.proofs.SpanLemmas.{place_greatest}
use Rattle.dng_tags.proofs.span.greatest_of_place.Goals as goal

pub returns-clause-greatest : goal.returns-clause-greatest
returns-clause-greatest c =
    let black = c.black_of_place-black.result in
    let across = c.greatest_delta-across.result in
    let level = cast_signed w64 (cast_unsigned w64 c.from.result) in
    let delta = cast_signed w64 (cast_unsigned w64 c.from-2.result) in
    let sum : cast_signed w64 (cast_unsigned w64 (level +ℤ delta)) ≡ black +ℤ across = omega (arith, ints) in
    let P : ℤ → Type 0 = λ most. IsGreatest (FallsOn c.args.cols c.args.levels.now.black_cols c.args.j)
    (across_at c.args.levels.now c.args.i) most in
    subst P (sym sum)
    (place_greatest c.args.levels.now c.args.cols c.args.i c.args.j black across c.black_of_place-black.ensures.value
    c.greatest_delta-across.ensures.greatest)

pub returns-clause-low : goal.returns-clause-low
returns-clause-low c = omega (arith, ints)

pub returns-clause-high : goal.returns-clause-high
returns-clause-high c = omega (arith, ints)
