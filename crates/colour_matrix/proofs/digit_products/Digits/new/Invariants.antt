use Rattle.std.proofs.Common.{◌≡◌, length}
use Rattle.colour_matrix.specs.inner.BalanceRows.{HasFactors}
use Rattle.colour_matrix.proofs.digit_products.Digits.new.Given as goal

abbrev pub invariant-loop-i : goal.invariant-loop-i
invariant-loop-i l = record {
  tops : length l.top ≡ 384;
  highs : length l.high ≡ 384;
  lows : length l.low ≡ 384;
  digits : HasFactors (record { gains = l.gains; exposure = l.exposure }) l.top l.high l.low l.i;
}
