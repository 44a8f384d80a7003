use Rattle.tone_table.specs.inner.Fills.{HasEntries}
use Rattle.tone_table.proofs.fills.fill_linear.Given as goal

abbrev pub invariant-loop-x : goal.invariant-loop-x
invariant-loop-x l = HasEntries (λ x. x) l.table 0 l.x
