use Rattle.std.proofs.Common.{◌≡◌, ◌+◌, ◌-◌, ◌*◌, ◌/◌, ◌∙◌, arith}
use Rattle.tone_table.proofs.Lines.{fall_within, line_down}
use Rattle.tone_table.proofs.fills.on_line.Goals as goal

pub overflow_sub-result-else-one-other : goal.overflow_sub-result-else-one-other
overflow_sub-result-else-one-other c =
    let within = fall_within (c.args.x - c.args.one.0) (c.args.other.0 - c.args.one.0) (c.args.one.1 - c.args.other.1)
    (omega arith) (omega arith) in
    let same : (c.from-along.result * c.from-else-one-other.result + c.from-over.result - 1) / c.from-over.result
    ≡ ((c.args.x - c.args.one.0) * (c.args.one.1 - c.args.other.1) + (c.args.other.0 - c.args.one.0) - 1)
    / (c.args.other.0 - c.args.one.0) =
    λ i. (c.from-along.ensures i * c.from-else-one-other.ensures i + c.from-over.ensures i - 1) / c.from-over.ensures i
    in
    rw same (omega arith)

pub returns-else-one-other : goal.returns-else-one-other
returns-else-one-other c =
    let line = line_down c.args.one.0 c.args.one.1 c.args.other.0 c.args.other.1 c.args.x (omega arith) (omega arith)
    (omega arith) in
    (λ i. c.args.one.1 - (c.from-along.ensures i * c.from-else-one-other.ensures i + c.from-over.ensures i - 1)
    / c.from-over.ensures i) ∙ line
