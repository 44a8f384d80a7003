use Rattle.std.proofs.Common.{Ok, subst}
use Rattle.std.specs.Prelude.{⊤}
use Rattle.std.proofs.lemmas.Result.{err_from_is_err_and}
use Rattle.developer.specs.inner.Reading.{Sends}
use Rattle.developer.specs.Replies.{answer_of}
use Rattle.developer.specs.Sessions.{InForce, in_force}
use Rattle.developer.proofs.Replying.{sends_err, sends_ok}
use Rattle.developer.proofs.opened.OpenedFrame.answer.Goals as goal

pub returns-in_err-answer-clause-sends : goal.returns-in_err-answer-clause-sends
returns-in_err-answer-clause-sends g c =
    let line = c.args.line.now in
    let now = in_force c.self.inside.frame c.self.inside.settings c.self.inside.session in
    let p = err_from_is_err_and c.from_residual.result c.from_residual.ensures.1 in
    subst (λ (n : InForce). Sends g.O.Sink.stands_for g.O.Sink.faults c.args.out.now c.answer.new.out
    (answer_of n line).bytes c.from_residual.result) c.self.view_is
    (rw (p.1, p.2) (sends_err g.O.Sink.stands_for g.O.Sink.faults c.args.out.now c.answer.new.out
    (answer_of now line).bytes c.in_err-answer.field-0.0 c.in_err-answer.ensures.written))

pub returns-clause-sends : goal.returns-clause-sends
returns-clause-sends g c =
    let line = c.args.line.now in
    let now = in_force c.self.inside.frame c.self.inside.settings c.self.inside.session in
    subst (λ (n : InForce). Sends {T = ⊤} g.O.Sink.stands_for g.O.Sink.faults c.args.out.now c.answer.new.out
    (answer_of n line).bytes (Ok tt)) c.self.view_is
    (sends_ok g.O.Sink.stands_for g.O.Sink.faults c.args.out.now c.answer.new.out (answer_of now line).bytes
    c.in_ok-answer.ensures.written)
