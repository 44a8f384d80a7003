use Rattle.std.proofs.Common.{◌≡◌, ◌++◌, drop}
use Rattle.dev_stages.specs.Listed.{listed}
use Rattle.dev_stages.proofs.listed.push_listed.Given as goal

abbrev pub invariant-loop-opcode : goal.invariant-loop-opcode
invariant-loop-opcode l = l.stages.items ++ listed (drop l.opcode-index l.opcodes) ≡ l.fn.stages.items
    ++ listed l.opcodes
