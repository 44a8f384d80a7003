use Rattle.std.proofs.Common.{◌*◌, ◌≤◌}
use Rattle.tone_table.specs.Tones.{root_of}
use Rattle.tone_table.specs.inner.Fills.{HasEntries}
use Rattle.tone_table.proofs.fills.fill_root.Given as goal

abbrev pub invariant-loop-x : goal.invariant-loop-x
invariant-loop-x l = record {
  square : l.root * l.root ≤ l.x * 65535;
  entries : HasEntries (λ x. root_of (x * 65535)) l.table 0 l.x;
}
