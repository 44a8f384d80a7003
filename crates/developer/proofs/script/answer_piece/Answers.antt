use Rattle.std.proofs.Common.{◌≡◌, ◌+◌, ◌∷◌, length, length-append, ◌∙◌, ap, arith}
use Rattle.std.proofs.lemmas.Result.{err_from_is_err_and}
use Rattle.developer.proofs.Readings.{piece_all, piece_kept, piece_more, piece_no_memory, piece_none, piece_stops}
use Rattle.developer.proofs.script.answer_piece.Goals as goal

pub loop-end-init : goal.loop-end-init
loop-end-init g c = record {
  so-far = λ before unfinished keeps. piece_none g.O.Sink.stands_for g.O.Sink.faults c.args.out.now c.args.frame.now
      before c.args.piece.now c.args.line.now.items unfinished keeps;
  few = omega arith;
}

pub returns-in_err-keep-clause-answers : goal.returns-in_err-keep-clause-answers
returns-in_err-keep-clause-answers g c before unfinished keeps =
    let p = err_from_is_err_and c.from_residual.result c.from_residual.ensures.1 in
    rw (p.1, p.2)
    (piece_no_memory g.O.Sink.stands_for g.O.Sink.faults c.args.out.now c.args.frame.now c.loop-end.out _
    c.loop-end.rest.now c.loop-end.line.items c.loop-end.frame
    (c.loop-end.invariant.so-far before unfinished keeps) c.loop-end.frame)

pub returns-in_err-answer-clause-answers : goal.returns-in_err-answer-clause-answers
returns-in_err-answer-clause-answers g c before unfinished keeps =
    let p = err_from_is_err_and c.from_residual-in_err-answer.result c.from_residual-in_err-answer.ensures.1 in
    let so-far = c.loop-end.invariant.so-far before unfinished keeps in
    rw (p.1, p.2)
    (piece_stops g.O.Sink.stands_for g.O.Sink.faults c.args.out.now c.args.frame.now c.loop-end.out _
    c.loop-end.rest.now c.loop-end.line.items c.loop-end.frame so-far
    c.in-Some.end.now c.in-Some.after.now c.in-Some.ensures.lines c.answer.new.out c.deref.result.now c.answer.new.self
    c.answer.new.self c.in_err-answer.field-0.0
    (c.deref.ensures.value ∙ c.in_ok-keep.ensures so-far.pending so-far.kept) c.in_err-answer.ensures.sends)

pub loop-end-preserved : goal.loop-end-preserved
loop-end-preserved g c =
    let lengths : length c.loop-end.rest.now ≡ length c.in-Some.end.now + length (10 ∷ c.in-Some.after.now) =
    ap length c.in-Some.ensures.parts ∙ length-append c.in-Some.end.now (10 ∷ c.in-Some.after.now) in
    record {
      so-far = λ before unfinished keeps.
          let so-far = c.loop-end.invariant.so-far before unfinished keeps in
          piece_more g.O.Sink.stands_for g.O.Sink.faults c.args.out.now c.args.frame.now c.loop-end.out _
          c.loop-end.rest.now c.loop-end.line.items c.loop-end.frame so-far
          c.in-Some.end.now c.in-Some.after.now c.in-Some.ensures.lines c.answer.new.out c.deref.result.now
          c.answer.new.self c.in_ok-answer.field-0
          (c.deref.ensures.value ∙ c.in_ok-keep.ensures so-far.pending so-far.kept) c.in_ok-answer.ensures.sends
          c.in_ok-answer.ensures.state c.clear.new.self.items c.clear.ensures.items;
      few = omega (arith, lengths, c.loop-end.invariant.few, c.answer.ensures.few);
    }

pub returns-in_err-keep-2-clause-answers : goal.returns-in_err-keep-2-clause-answers
returns-in_err-keep-2-clause-answers g c before unfinished keeps =
    let p = err_from_is_err_and c.from_residual-in_err-keep-2.result c.from_residual-in_err-keep-2.ensures.1 in
    rw (p.1, p.2)
    (piece_no_memory g.O.Sink.stands_for g.O.Sink.faults c.args.out.now c.args.frame.now c.loop-end.out _
    c.loop-end.rest.now c.loop-end.line.items c.loop-end.frame
    (c.loop-end.invariant.so-far before unfinished keeps) c.loop-end.frame)

pub returns-clause-answers : goal.returns-clause-answers
returns-clause-answers g c before unfinished keeps =
    piece_all g.O.Sink.stands_for g.O.Sink.faults c.args.out.now c.args.frame.now c.loop-end.out _ c.loop-end.rest.now
    c.loop-end.line.items c.loop-end.frame
    (c.loop-end.invariant.so-far before unfinished keeps) c.in_default.ensures.lines tt

pub returns-clause-kept : goal.returns-clause-kept
returns-clause-kept g c before unfinished keeps =
    let so-far = c.loop-end.invariant.so-far before unfinished keeps in
    piece_kept g.O.Sink.stands_for g.O.Sink.faults c.args.out.now c.args.frame.now c.loop-end.out _ c.loop-end.rest.now
    c.loop-end.line.items c.loop-end.frame so-far
    c.in_default.ensures.lines c.keep-2.new.line.items (c.in_ok-keep-2.ensures so-far.pending so-far.kept)
