use Rattle.std.proofs.Common.{◌≡◌, ◌*◌, ◌%◌, ◌^◌, arith, ap}
use Rattle.std.proofs.lemmas.Nat.{one_shl}
use Rattle.ljpeg_predict.proofs.EncodeLemmas.{magnitude_low, signed_digits}
use Rattle.ljpeg_predict.proofs.encoder.extra_of.Goals as goal

pub overflow_sub-result-then-number-gt32768 : goal.overflow_sub-result-then-number-gt32768
overflow_sub-result-then-number-gt32768 c =
    let d = signed_digits c.args.number (omega arith) in
    let power = ap (λ n. 2 ^ n) c.requires.category in
    let span : 1 * 2 ^ c.args.category % 2 ^ 32 ≡ 2 ^ c.args.category = one_shl c.args.category 32 (omega arith) in
    omega (arith, d.above, power, span, c.magnitude.ensures.is)

pub returns-else-number-gt32768-clause-fits : goal.returns-else-number-gt32768-clause-fits
returns-else-number-gt32768-clause-fits c =
    let d = signed_digits c.args.number (omega arith) in
    let power = ap (λ n. 2 ^ n) c.requires.category in
    omega (arith, d.above, power, magnitude_low c.args.number c.if-number-gt32768.false)
