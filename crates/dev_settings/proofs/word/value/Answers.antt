use Rattle.std.proofs.Common.{◌+◌, arith}
use Rattle.dev_settings.proofs.WordLemmas.{numeral_from_test, value_fits, value_step}
use Rattle.dev_settings.proofs.word.value.Goals as goal

pub overflow_sub-digit : goal.overflow_sub-digit
overflow_sub-digit c = (value_step c.args.digits.now c.loop-digit.digit-index (numeral_from_test _ c.requires)
    c.loop-digit-test.true).0

pub overflow_mul-value : goal.overflow_mul-value
overflow_mul-value c =
    let numeral = numeral_from_test c.args.digits.now c.requires in
    let step = value_step c.args.digits.now c.loop-digit.digit-index numeral c.loop-digit-test.true in
    let fits = value_fits c.args.digits.now (c.loop-digit.digit-index + 1) numeral in
    omega (arith, c.loop-digit.invariant)

pub overflow_add-value : goal.overflow_add-value
overflow_add-value c =
    let numeral = numeral_from_test c.args.digits.now c.requires in
    let step = value_step c.args.digits.now c.loop-digit.digit-index numeral c.loop-digit-test.true in
    let fits = value_fits c.args.digits.now (c.loop-digit.digit-index + 1) numeral in
    omega (arith, c.loop-digit.invariant)

pub loop-digit-preserved : goal.loop-digit-preserved
loop-digit-preserved c =
    let numeral = numeral_from_test c.args.digits.now c.requires in
    let step = value_step c.args.digits.now c.loop-digit.digit-index numeral c.loop-digit-test.true in
    omega (arith, c.loop-digit.invariant)
