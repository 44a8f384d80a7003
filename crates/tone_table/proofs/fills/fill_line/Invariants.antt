use Rattle.tone_table.specs.Tones.{line_at}
use Rattle.tone_table.specs.inner.Fills.{HasEntries, SameBelow}
use Rattle.tone_table.proofs.fills.fill_line.Given as goal

abbrev pub invariant-loop-x : goal.invariant-loop-x
invariant-loop-x l = record {
  entries : HasEntries (line_at l.one l.other) l.table l.one.0 l.x;
  before : SameBelow l.initial.table l.table l.one.0;
}
