use Rattle.std.proofs.Common.{rules}
use Rattle.tone_table.proofs.Padding.{prefix_of_zeros}
use Rattle.tone_table.proofs.Knots.new.Goals as goal

pub invariant_of-result : goal.invariant_of-result
invariant_of-result c = prefix_of_zeros c.args.points.now c.copy_from_slice.new.self (search rules) (search rules)
