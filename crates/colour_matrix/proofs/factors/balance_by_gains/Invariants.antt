use Rattle.colour_matrix.specs.Balances.{Balancing}
use Rattle.colour_matrix.specs.inner.BalanceRows.{HasShort, HasBalanced}
use Rattle.colour_matrix.proofs.factors.balance_by_gains.Given as goal

abbrev pub invariant-loop-i : goal.invariant-loop-i
invariant-loop-i l = (s : Balancing) → HasShort s l.gains.gain → HasBalanced s l.from l.out l.i
