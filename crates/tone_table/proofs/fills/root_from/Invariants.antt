use Rattle.std.proofs.Common.{◌*◌, ◌-◌, ◌^◌, ◌<◌, ◌≤◌}
use Rattle.tone_table.proofs.fills.root_from.Given as goal

abbrev pub invariant-loop-root : goal.invariant-loop-root
invariant-loop-root l = record {
  square : l.root * l.root ≤ l.number;
  below : l.root < 2 ^ 20;
}

abbrev pub decreases-loop-root : goal.decreases-loop-root
decreases-loop-root l = 2 ^ 20 - l.root
