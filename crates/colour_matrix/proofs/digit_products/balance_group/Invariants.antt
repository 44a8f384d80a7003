use Rattle.colour_matrix.specs.Balances.{Balancing}
use Rattle.colour_matrix.specs.inner.BalanceRows.{HasFactors, HasBalanced}
use Rattle.colour_matrix.proofs.digit_products.balance_group.Given as goal

abbrev pub invariant-loop-i : goal.invariant-loop-i
invariant-loop-i l = (s : Balancing) → HasFactors s l.digits.top l.digits.high l.digits.low 384
    → HasBalanced s l.from l.out l.i
