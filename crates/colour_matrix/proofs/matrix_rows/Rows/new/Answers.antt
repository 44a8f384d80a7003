use Rattle.std.proofs.Common.{pos, rules, slice_index_or}
use Rattle.colour_matrix.proofs.Raised.{entry_in_32, three_rows, three_digits}
use Rattle.colour_matrix.proofs.matrix_rows.Rows.new.Goals as goal

pub new-requires-3-clause-red : goal.new-requires-3-clause-red
new-requires-3-clause-red c = entry_in_32 (slice_index_or c.args.c 6 (pos 0)) (c.requires 6 (pos 0) (search rules))

pub new-requires-3-clause-green : goal.new-requires-3-clause-green
new-requires-3-clause-green c = entry_in_32 (slice_index_or c.args.c 7 (pos 0)) (c.requires 7 (pos 0) (search rules))

pub new-requires-3-clause-blue : goal.new-requires-3-clause-blue
new-requires-3-clause-blue c = entry_in_32 (slice_index_or c.args.c 8 (pos 0)) (c.requires 8 (pos 0) (search rules))

pub returns-clause-rows : goal.returns-clause-rows
returns-clause-rows c = three_rows _ _ (search rules) (search rules) (search rules)

pub returns-clause-digits : goal.returns-clause-digits
returns-clause-digits c = three_digits _ c.new.ensures.digits c.new-2.ensures.digits c.new-3.ensures.digits
