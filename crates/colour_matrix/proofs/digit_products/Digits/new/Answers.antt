use Rattle.std.proofs.Common.{◌≡◌, ◌*◌, ◌/◌, ◌%◌, ◌^◌, ap, arith, length-set}
use Rattle.colour_matrix.specs.Balances.{Balancing}
use Rattle.colour_matrix.specs.inner.BalanceRows.{AreDigits, factor_at}
use Rattle.colour_matrix.proofs.Digits.{factors_more}
use Rattle.colour_matrix.proofs.digit_products.Digits.new.Goals as goal

pub loop-i-preserved : goal.loop-i-preserved
loop-i-preserved c =
    let s : Balancing = record { gains = c.args.gains; exposure = c.args.exposure } in
    let factor = c.from.result * c.from-in-loop-i.result in
    let is : factor ≡ factor_at s c.loop-i.i = λ i. c.from.ensures i * c.from-in-loop-i.ensures i in
    let digits : AreDigits (factor_at s c.loop-i.i) (factor / 2 ^ 30 * 256) (factor / 2 ^ 15 % 2 ^ 15)
    (factor % 2 ^ 15) =
    record {
      top = ap (λ n. n / 2 ^ 30 * 256) is;
      high = ap (λ n. n / 2 ^ 15 % 2 ^ 15) is;
      low = ap (λ n. n % 2 ^ 15) is;
    } in
    record {
      tops = simp length-set c.loop-i.invariant.tops;
      highs = simp length-set c.loop-i.invariant.highs;
      lows = simp length-set c.loop-i.invariant.lows;
      digits = factors_more s c.loop-i.top c.loop-i.high c.loop-i.low c.loop-i.i _ _ _ (omega arith) (omega arith)
          (omega arith) digits c.loop-i.invariant.digits;
    }
