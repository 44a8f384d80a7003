use Rattle.opcode_list.proofs.Walk.{HasRead}
use Rattle.opcode_list.proofs.list.read_opcodes.Given as goal

abbrev pub invariant-loop-index : goal.invariant-loop-index
invariant-loop-index l = HasRead l.list l.count l.bytes l.index l.rest l.opcodes.items
