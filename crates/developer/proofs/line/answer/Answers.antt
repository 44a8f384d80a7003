use Rattle.std.proofs.Common.{ℕ, List, Option, Err, subst}
use Rattle.std.proofs.lemmas.Result.{err_from_is_err_and}
use Rattle.developer.specs.Replies.{answer_of, line_answer}
use Rattle.developer.specs.Sessions.{in_force}
use Rattle.developer.specs.inner.Writes.{Writes}
use Rattle.developer.proofs.Replying.{appended_err}
use Rattle.developer.proofs.line.answer.Goals as goal

pub returns-in_err-answer_text-clause-written : goal.returns-in_err-answer_text-clause-written
unfolding answer_of
returns-in_err-answer_text-clause-written g c =
    let now = in_force c.args.frame.now c.args.settings.now c.args.session.now in
    let p = err_from_is_err_and c.from_residual.result c.from_residual.ensures.1 in
    let stop = c.in_err-answer_text.field-0.0 in
    rw (p.1, p.2)
    (appended_err g.O.Sink.stands_for g.O.Sink.faults c.args.out.now c.answer_text.new.out
    (answer_of now c.args.line.now).bytes stop
    (subst (λ (text : Option (List ℕ)). Writes {T = ℕ} g.O.Sink.stands_for g.O.Sink.faults c.args.out.now
    c.answer_text.new.out (line_answer now text).bytes (λ n. n) (Err stop)) c.line_text.ensures
    c.in_err-answer_text.ensures.writes))
