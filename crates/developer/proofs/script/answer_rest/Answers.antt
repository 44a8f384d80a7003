use Rattle.std.proofs.Common.{sym, ◌∙◌}
use Rattle.developer.proofs.Readings.{answered_last, answered_none}
use Rattle.developer.proofs.script.answer_rest.Goals as goal

pub returns-then-is_empty : goal.returns-then-is_empty
returns-then-is_empty g c before is =
    answered_none g.O.Sink.stands_for g.O.Sink.faults c.args.out.now c.args.frame.now before c.args.line.now tt is
    (sym c.is_empty.ensures ∙ c.if-is_empty.true)

pub returns-else-is_empty : goal.returns-else-is_empty
returns-else-is_empty g c before is =
    answered_last g.O.Sink.stands_for g.O.Sink.faults c.args.out.now c.answer.new.out c.args.frame.now c.answer.new.self
    before c.args.line.now c.answer.result is
    (sym c.is_empty.ensures ∙ c.if-is_empty.false) c.answer.ensures.sends c.answer.ensures.state
