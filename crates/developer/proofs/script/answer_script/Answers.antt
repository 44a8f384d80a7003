use Rattle.std.proofs.Common.{◌≡◌, ℕ, ◌+◌, ◌-◌, ◌<◌, ◌≤◌, [], ◌++◌, length, take, drop, ◌∙◌, ap, arith, length-take}
use Rattle.std.proofs.lemmas.List.{take-append-le}
use Rattle.std.proofs.lemmas.Result.{err_from_is_err_and}
use Rattle.developer.specs.Transcript.{max_script}
use Rattle.raw_io.proofs.Pieces.{consumes_same}
use Rattle.developer.proofs.ScriptLines.{rest_unended}
use Rattle.developer.proofs.Scripts.{prefix_of, script_end, script_end_stops, script_failed, script_long, script_none}
use Rattle.developer.proofs.Scripts.{script_piece, script_piece_stops}
use Rattle.developer.proofs.script.answer_script.Goals as goal

pub loop-taken-init : goal.loop-taken-init
loop-taken-init g c =
    script_none g.C.Source.left g.C.Source.faults g.O.Sink.stands_for g.O.Sink.faults c.args.frame.now c.args.script.now
    c.args.out.now c.args.line.now.items c.requires.empty c.requires.begun

pub returns-in_err-count : goal.returns-in_err-count
returns-in_err-count g c =
    let p = err_from_is_err_and c.from_residual.result c.from_residual.ensures.1 in
    rw (p.1, p.2)
    (script_failed g.C.Source.left g.C.Source.faults g.O.Sink.stands_for g.O.Sink.faults c.args.frame.now
    c.args.script.now c.args.out.now
    c.loop-taken.script c.loop-taken.out c.loop-taken.line.items c.loop-taken.frame c.loop-taken.taken
    c.loop-taken.invariant c.read.new.self
    (omega (arith, c.loop-taken-test.true)) c.in_err-count.ensures.kept c.in_err-count.ensures.counts
    c.in_err-count.ensures.failed)

pub returns-in_err-answer_rest : goal.returns-in_err-answer_rest
returns-in_err-answer_rest g c =
    let p = err_from_is_err_and c.from_residual-in_err-answer_rest.result c.from_residual-in_err-answer_rest.ensures.1
    in
    let so-far = c.loop-taken.invariant in
    let none : take c.in_ok-count.count c.read.new.into ≡ [] =
    ap (λ (n : ℕ). take n c.read.new.into) c.if-count-eq0.true in
    let still = consumes_same _ _ _ _ none c.in_ok-count.ensures.taken in
    let asked : 0 < length (take c.min-room.result c.loop-taken.piece) =
    omega (
      arith,
      c.min-room.ensures,
      c.requires.some,
      c.loop-taken.auto.piece,
      c.loop-taken-test.true,
      length-take c.min-room.result c.loop-taken.piece,
    ) in
    let end = c.in_ok-count.ensures.end c.if-count-eq0.true asked in
    rw (p.1, p.2)
    (script_end_stops g.C.Source.left g.C.Source.faults g.O.Sink.stands_for g.O.Sink.faults c.args.frame.now
    c.args.script.now c.args.out.now
    c.loop-taken.script c.loop-taken.out c.loop-taken.line.items c.loop-taken.frame c.loop-taken.taken
    c.loop-taken.invariant
    c.read.new.self (omega (arith, c.loop-taken-test.true)) still c.in_ok-count.ensures.no_fault end
    c.answer_rest.new.out c.answer_rest.new.frame c.answer_rest.new.frame c.in_err-answer_rest.field-0.0
    (c.in_err-answer_rest.ensures _ (c.deref.ensures.value ∙ so-far.kept)))

pub returns-then-count-eq0 : goal.returns-then-count-eq0
returns-then-count-eq0 g c =
    let so-far = c.loop-taken.invariant in
    let none : take c.in_ok-count.count c.read.new.into ≡ [] =
    ap (λ (n : ℕ). take n c.read.new.into) c.if-count-eq0.true in
    let still = consumes_same _ _ _ _ none c.in_ok-count.ensures.taken in
    let asked : 0 < length (take c.min-room.result c.loop-taken.piece) =
    omega (
      arith,
      c.min-room.ensures,
      c.requires.some,
      c.loop-taken.auto.piece,
      c.loop-taken-test.true,
      length-take c.min-room.result c.loop-taken.piece,
    ) in
    let end = c.in_ok-count.ensures.end c.if-count-eq0.true asked in
    script_end g.C.Source.left g.C.Source.faults g.O.Sink.stands_for g.O.Sink.faults c.args.frame.now c.args.script.now
    c.args.out.now
    c.loop-taken.script c.loop-taken.out c.loop-taken.line.items c.loop-taken.frame c.loop-taken.taken
    c.loop-taken.invariant
    c.read.new.self (omega (arith, c.loop-taken-test.true)) still c.in_ok-count.ensures.no_fault end
    c.answer_rest.new.out c.answer_rest.new.frame c.in_ok-answer_rest.field-0 tt
    (c.in_ok-answer_rest.ensures _ (c.deref.ensures.value ∙ so-far.kept))

pub loop-taken-preserved : goal.loop-taken-preserved
loop-taken-preserved g c =
    let so-far = c.loop-taken.invariant in
    let within : ℕ = c.in_ok-count.count - c.saturating_sub.result in
    let there : c.in_ok-count.count ≤ length c.read.new.into =
    omega (arith, c.read.auto.into, c.in_ok-count.ensures.within) in
    let room : c.loop-taken.taken + c.in_ok-count.count ≤ max_script + 1 =
    omega (
      arith,
      c.in_ok-count.ensures.within,
      c.min-room.ensures,
      c.loop-taken-test.true,
      length-take c.min-room.result c.loop-taken.piece,
    ) in
    let fits : within ≡ c.in_ok-count.count - ((c.loop-taken.taken + c.in_ok-count.count) - max_script) =
    omega (arith, c.saturating_sub.ensures) in
    let prefix : take within (c.read.new.into ++ drop c.min-room.result c.loop-taken.piece)
    ≡ take within c.read.new.into =
    take-append-le within c.read.new.into (drop c.min-room.result c.loop-taken.piece) (omega arith) in
    let unfinished = rest_unended (prefix_of so-far.bytes) in
    script_piece g.C.Source.left g.C.Source.faults g.O.Sink.stands_for g.O.Sink.faults c.args.frame.now
    c.args.script.now c.args.out.now
    c.loop-taken.script c.loop-taken.out c.loop-taken.line.items c.loop-taken.frame c.loop-taken.taken
    c.loop-taken.invariant
    c.read.new.self c.read.new.into _ c.in_ok-count.count within (omega (arith, c.loop-taken-test.true)) there room fits
    prefix c.in_ok-count.ensures.taken c.in_ok-count.ensures.no_fault
    c.answer_piece.new.out c.answer_piece.new.line.items c.answer_piece.new.frame c.in_ok-answer_piece.field-0
    (c.in_ok-answer_piece.ensures.answers _ unfinished so-far.kept)
    (c.in_ok-answer_piece.ensures.kept _ unfinished so-far.kept) c.in_ok-answer_piece.ensures.few

pub returns-in_err-answer_piece : goal.returns-in_err-answer_piece
returns-in_err-answer_piece g c =
    let p = err_from_is_err_and c.from_residual-in_err-answer_piece.result c.from_residual-in_err-answer_piece.ensures.1
    in
    let so-far = c.loop-taken.invariant in
    let within : ℕ = c.in_ok-count.count - c.saturating_sub.result in
    let there : c.in_ok-count.count ≤ length c.read.new.into =
    omega (arith, c.read.auto.into, c.in_ok-count.ensures.within) in
    let room : c.loop-taken.taken + c.in_ok-count.count ≤ max_script + 1 =
    omega (
      arith,
      c.in_ok-count.ensures.within,
      c.min-room.ensures,
      c.loop-taken-test.true,
      length-take c.min-room.result c.loop-taken.piece,
    ) in
    let fits : within ≡ c.in_ok-count.count - ((c.loop-taken.taken + c.in_ok-count.count) - max_script) =
    omega (arith, c.saturating_sub.ensures) in
    let prefix : take within (c.read.new.into ++ drop c.min-room.result c.loop-taken.piece)
    ≡ take within c.read.new.into =
    take-append-le within c.read.new.into (drop c.min-room.result c.loop-taken.piece) (omega arith) in
    let unfinished = rest_unended (prefix_of so-far.bytes) in
    rw (p.1, p.2)
    (script_piece_stops g.C.Source.left g.C.Source.faults g.O.Sink.stands_for g.O.Sink.faults c.args.frame.now
    c.args.script.now c.args.out.now
    c.loop-taken.script c.loop-taken.out c.loop-taken.line.items c.loop-taken.frame c.loop-taken.taken
    c.loop-taken.invariant
    c.read.new.self c.read.new.into _ c.in_ok-count.count within (omega (arith, c.loop-taken-test.true)) there room fits
    prefix c.in_ok-count.ensures.taken c.in_ok-count.ensures.no_fault
    c.answer_piece.new.out c.answer_piece.new.frame c.answer_piece.new.frame c.in_err-answer_piece.field-0.0
    (c.in_err-answer_piece.ensures.answers _ unfinished so-far.kept))

pub returns : goal.returns
returns g c =
    script_long g.C.Source.left g.C.Source.faults g.O.Sink.stands_for g.O.Sink.faults c.args.frame.now c.args.script.now
    c.args.out.now
    c.loop-taken.script c.loop-taken.out c.loop-taken.line.items c.loop-taken.frame c.loop-taken.taken
    c.loop-taken.invariant (omega (arith, c.loop-taken-test.false))
