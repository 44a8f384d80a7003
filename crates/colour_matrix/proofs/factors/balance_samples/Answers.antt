use Rattle.std.proofs.Common.{◌+◌, ◌-◌, ◌*◌, ◌/◌, length, arith, refl}
use Rattle.colour_matrix.proofs.Groups.{group_more}
use Rattle.colour_matrix.proofs.factors.balance_samples.Goals as goal

pub loop-group-preserved : goal.loop-group-preserved
loop-group-preserved c = λ s factors i below.
    let group = c.loop-group.group in
    let at = group * 384 in
    group_more s c.args.from.now c.loop-group.out c.balance_group.new.out group at (at + 384 - at) (at + 384) refl
    (omega arith) (omega arith) (omega arith) (omega arith)
    (c.balance_group.ensures s factors) (c.loop-group.invariant s factors) i (omega arith)

pub returns : goal.returns
returns c = λ s factors i below.
    let groups = length c.args.out.now / 384 in
    let at = groups * 384 in
    group_more s c.args.from.now c.loop-group.out c.balance_group-2.new.out groups at (length c.loop-group.out - at)
    (length c.args.from.now) refl (omega arith) (omega arith) (omega arith) (omega arith)
    (c.balance_group-2.ensures s factors) (λ j lower. c.loop-group.invariant s factors j (omega arith)) i below
