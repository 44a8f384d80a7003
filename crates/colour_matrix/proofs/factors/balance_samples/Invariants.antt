use Rattle.std.proofs.Common.{◌*◌}
use Rattle.colour_matrix.specs.Balances.{Balancing}
use Rattle.colour_matrix.specs.inner.BalanceRows.{HasBalanced}
use Rattle.colour_matrix.specs.inner.Factors.{AreFactors}
use Rattle.colour_matrix.proofs.factors.balance_samples.Given as goal

abbrev pub invariant-loop-group : goal.invariant-loop-group
invariant-loop-group l = (s : Balancing) → AreFactors s l.factors → HasBalanced s l.from l.out (l.group * 384)
