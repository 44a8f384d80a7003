use Rattle.std.proofs.Common.{sym}
use Rattle.tone_table.proofs.Roots.{root_is}
use Rattle.tone_table.proofs.fills.root_from.Goals as goal

pub returns-clause-root : goal.returns-clause-root
returns-clause-root c = sym (root_is c.args.number c.loop-root.root c.loop-root.invariant.square c.loop-root-test.false)
