use Rattle.std.proofs.Common.{◌%◌, arith}
use Rattle.std.specs.Prelude.{slice_index}
use Rattle.colour_matrix.proofs.Digits.{balanced_more}
use Rattle.colour_matrix.proofs.digit_products.balance_group.Goals as goal

pub balanced-requires-clause-top : goal.balanced-requires-clause-top
balanced-requires-clause-top c = c.args.digits.now.small.top c.loop-i.i (omega arith)

pub balanced-requires-clause-high : goal.balanced-requires-clause-high
balanced-requires-clause-high c = c.args.digits.now.small.high c.loop-i.i (omega arith)

pub balanced-requires-clause-low : goal.balanced-requires-clause-low
balanced-requires-clause-low c = c.args.digits.now.small.low c.loop-i.i (omega arith)

pub loop-i-preserved : goal.loop-i-preserved
loop-i-preserved c = λ s factors.
    balanced_more s c.args.from.now c.loop-i.out c.loop-i.i c.balanced.result (omega arith)
    (c.balanced.ensures (slice_index s.gains (c.loop-i.i % 3)) s.exposure (factors c.loop-i.i (omega arith)))
    (c.loop-i.invariant s factors)
