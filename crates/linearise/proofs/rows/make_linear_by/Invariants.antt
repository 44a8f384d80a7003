use Rattle.linearise.specs.inner.Rows.{IsLinearTo}
use Rattle.linearise.proofs.rows.make_linear_by.Given as goal

abbrev pub invariant-loop-k : goal.invariant-loop-k
invariant-loop-k l = IsLinearTo l.scale.span l.across l.down l.initial.out l.out l.k
