use Rattle.tone_table.specs.inner.Fills.{HasLookups}
use Rattle.tone_table.proofs.tone.look_up.Given as goal

abbrev pub invariant-loop-i : goal.invariant-loop-i
invariant-loop-i l = HasLookups l.table l.from l.out l.i
