use Rattle.opcode_stages.specs.MendEquality.{pixels_equality}
use Rattle.stage_tests.proofs.opcodes.same_lists.Goals as goal

pub returns : goal.returns
returns c = rw c.eq.ensures (pixels_equality c.args.a.now c.args.b.now)
