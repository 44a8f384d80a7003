use Rattle.std.proofs.Common.{◌≡◌, ◌+◌, ◌≤◌, drop, length}
use Rattle.dev_stages.specs.Listed.{listed}
use Rattle.dev_stages.proofs.listed.stage_count.Given as goal

abbrev pub invariant-loop-opcode : goal.invariant-loop-opcode
invariant-loop-opcode l = record {
  count : l.count + length (listed (drop l.opcode-index l.opcodes)) ≡ length (listed l.opcodes);
  few : l.count ≤ l.opcode-index;
}
