use Rattle.std.proofs.Common.{◌≡◌, ℕ, ◌<◌, ◌≤◌, List, length, inl, inr, sym, ◌∙◌, Bool, false}
use Rattle.std.specs.Prelude.{IsTrue}
use Rattle.std.proofs.lemmas.Bool.{cases_lt, false≢true}
use Rattle.std.proofs.lemmas.Result.{err_from_is_err_and}
use Rattle.developer.specs.inner.Writes.{by_write}
use Rattle.developer.proofs.Pieces.{appended_held, appended_sent, appended_stops, cut_at}
use Rattle.developer.proofs.writing.write_samples.Goals as goal

pub returns-in_err-written-clause-stops : goal.returns-in_err-written-clause-stops
returns-in_err-written-clause-stops g c first all h =
    let p = err_from_is_err_and c.from_residual.result c.from_residual.ensures.1 in
    let cut = cut_at _ c.loop-rest.rest.now c.split_at.result.0.now c.split_at.result.1.now c.split_at.ensures.front
    c.split_at.ensures.back in
    rw (p.1, p.2)
    (appended_stops g.O.Sink.stands_for g.O.Sink.faults c.args.format c.args.out.now c.args.samples.now c.args.piece.now
    c.args.written
    c.loop-rest.out c.loop-rest.rest.now c.loop-rest.piece c.loop-rest.written c.loop-rest.invariant
    c.split_at.result.0.now c.split_at.result.1.now c.push_samples.new.self cut c.push_samples.ensures.bytes
    c.write_piece.new.out (by_write c.in_err-written.field-0.0) c.in_err-written.ensures.writes first all h)

pub loop-rest-preserved-in_ok-written : goal.loop-rest-preserved-in_ok-written
loop-rest-preserved-in_ok-written g c =
    let cut = cut_at _ c.loop-rest.rest.now c.split_at.result.0.now c.split_at.result.1.now c.split_at.ensures.front
    c.split_at.ensures.back in
    rw (c.in_ok-written.ensures.emptied)
    (appended_sent g.O.Sink.stands_for g.O.Sink.faults c.args.format c.args.out.now c.args.samples.now c.args.piece.now
    c.args.written
    c.loop-rest.out c.loop-rest.rest.now c.loop-rest.piece c.loop-rest.written c.loop-rest.invariant
    c.split_at.result.0.now c.split_at.result.1.now c.push_samples.new.self cut c.push_samples.ensures.bytes
    c.write_piece.new.out c.in_ok-written.written c.in_ok-written.ensures.number c.push_samples.ensures.length
    c.in_ok-written.ensures.writes)

-- a piece that isn't full
not_full : (full : Bool) (piece : List ℕ) → full ≡ false → (65536 ≤ length piece → IsTrue full) → length piece < 65536
not_full full piece is only =
    elim (cases_lt (length piece) 65536) [ inl less ↦ less | inr more ↦ absurd (false≢true (sym is ∙ only more)) ]

pub loop-rest-preserved : goal.loop-rest-preserved
loop-rest-preserved g c =
    let cut = cut_at _ c.loop-rest.rest.now c.split_at.result.0.now c.split_at.result.1.now c.split_at.ensures.front
    c.split_at.ensures.back in
    appended_held g.O.Sink.stands_for g.O.Sink.faults c.args.format c.args.out.now c.args.samples.now c.args.piece.now
    c.args.written
    c.loop-rest.out c.loop-rest.rest.now c.loop-rest.piece c.loop-rest.written c.loop-rest.invariant
    c.split_at.result.0.now c.split_at.result.1.now c.push_samples.new.self cut c.push_samples.ensures.bytes
    (not_full c.is_full.result c.push_samples.new.self c.if-is_full.false c.is_full.ensures.1)
    c.push_samples.ensures.length
