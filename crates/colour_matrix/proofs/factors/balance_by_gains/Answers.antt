use Rattle.std.proofs.Common.{◌∙◌, sym, arith}
use Rattle.std.specs.Prelude.{slice_index}
use Rattle.colour_matrix.specs.Balances.{balanced_value}
use Rattle.colour_matrix.proofs.Digits.{balanced_more}
use Rattle.colour_matrix.proofs.factors.balance_by_gains.Goals as goal

pub loop-i-preserved : goal.loop-i-preserved
loop-i-preserved c = λ s short.
    let gain = short.gains c.loop-i.i (omega arith) in
    let exposure = short.exposure in
    balanced_more s c.args.from.now c.loop-i.out c.loop-i.i c.balanced.result (omega arith)
    (c.balanced.ensures ∙ (λ z. balanced_value (gain z) (sym exposure z) (slice_index c.args.from.now c.loop-i.i)))
    (c.loop-i.invariant s short)
