use Rattle.std.proofs.Common.{◌≡◌, ℕ, ◌+◌, ◌<◌, ◌≤◌, [], ◌++◌, take, length, refl, sym, ◌∙◌, ap, arith, length-take}
use Rattle.std.proofs.Common.{length-append, vec_len}
use Rattle.std.proofs.KnownBytes.{Consumes-kept, Consumes-nil, Consumes-trans}
use Rattle.raw_io.proofs.Pieces.{rises_last, consumes_still, consumes_all, consumes_same}
use Rattle.raw_io.proofs.whole.take_into.Goals as goal

pub loop-count-init : goal.loop-count-init
loop-count-init g c = record {
  within = omega (arith, c.args.into.now.ok.0, ap length c.requires.empty);
  no_fault = refl;
  taken = consumes_same _ _ _ _ (sym c.requires.empty) (Consumes-nil (g.C.Source.left c.args.source.now));
}

pub returns-in_err-count-clause-rises : goal.returns-in_err-count-clause-rises
returns-in_err-count-clause-rises g c =
    λ _. rises_last _ _ _ (omega (arith, c.loop-count.invariant.no_fault)) c.in_err-count.ensures.failed

pub returns-in_err-count-clause-failed : goal.returns-in_err-count-clause-failed
returns-in_err-count-clause-failed g c = λ _.
    (Consumes-kept _ _ _ _ c.loop-count.invariant.taken c.in_err-count.ensures.kept, c.loop-count.invariant.within)

pub returns-then-count-eq0-clause-taken : goal.returns-then-count-eq0-clause-taken
returns-then-count-eq0-clause-taken g c =
    let none : take c.in_ok-count.count c.read.new.into ≡ [] =
    ap (λ (n : ℕ). take n c.read.new.into) c.if-count-eq0.true in
    consumes_still _ _ _ c.loop-count.into.items c.loop-count.invariant.taken
    (consumes_same _ _ _ _ none c.in_ok-count.ensures.taken)

pub returns-then-count-eq0-clause-end : goal.returns-then-count-eq0-clause-end
returns-then-count-eq0-clause-end g c =
    let none : take c.in_ok-count.count c.read.new.into ≡ [] =
    ap (λ (n : ℕ). take n c.read.new.into) c.if-count-eq0.true in
    let asked : 0 < length (take c.piece_len-most.result c.loop-count.buffer) =
    omega (
      arith,
      c.read.auto.into,
      c.piece_len-most.ensures.some,
      c.piece_len-most.ensures.within,
      c.loop-count.auto.buffer,
      c.requires.some,
      length-take c.piece_len-most.result c.loop-count.buffer,
    ) in
    consumes_all _ _ _ c.loop-count.into.items c.loop-count.invariant.taken
    (consumes_same _ _ _ _ none c.in_ok-count.ensures.taken) (c.in_ok-count.ensures.end c.if-count-eq0.true asked)

pub returns-in_err-extend_from_slice-clause-memory : goal.returns-in_err-extend_from_slice-clause-memory
returns-in_err-extend_from_slice-clause-memory g c = λ _.
    let pushed : length (take c.in_ok-count.count c.read.new.into) ≡ c.in_ok-count.count =
    omega (
      arith,
      c.read.auto.into,
      c.in_ok-count.ensures.within,
      length-take c.in_ok-count.count c.read.new.into,
    ) in
    let room : c.in_ok-count.count + vec_len c.loop-count.into ≤ c.args.limit + 1 =
    omega (
      arith,
      c.in_ok-count.ensures.within,
      c.piece_len-most.ensures.at_most,
      c.loop-count.invariant.within,
      c.len.ensures,
      length-take c.piece_len-most.result c.loop-count.buffer,
    ) in
    let taken = Consumes-trans _ _ _ _ _ c.loop-count.invariant.taken c.in_ok-count.ensures.taken in (
      c.loop-count.into.items ++ take c.in_ok-count.count c.read.new.into,
      taken,
      omega (
        arith,
        pushed,
        room,
        c.loop-count.into.ok.0,
        length-append c.loop-count.into.items (take c.in_ok-count.count c.read.new.into),
      ),
    )

pub returns-then-len-limit-clause-too_long : goal.returns-then-len-limit-clause-too_long
returns-then-len-limit-clause-too_long g c = λ _.
    let pushed : length (take c.in_ok-count.count c.read.new.into) ≡ c.in_ok-count.count =
    omega (
      arith,
      c.read.auto.into,
      c.in_ok-count.ensures.within,
      length-take c.in_ok-count.count c.read.new.into,
    ) in
    let room : c.in_ok-count.count + vec_len c.loop-count.into ≤ c.args.limit + 1 =
    omega (
      arith,
      c.in_ok-count.ensures.within,
      c.piece_len-most.ensures.at_most,
      c.loop-count.invariant.within,
      c.len.ensures,
      length-take c.piece_len-most.result c.loop-count.buffer,
    ) in
    let taken = Consumes-trans _ _ _ _ _ c.loop-count.invariant.taken c.in_ok-count.ensures.taken in (
      consumes_same _ _ _ _ (sym c.in_ok-extend_from_slice.ensures.items) taken,
      omega (
        arith,
        pushed,
        room,
        c.in_ok-extend_from_slice.ensures.len,
        c.len-in-loop-count.ensures,
        c.if-len-limit.true,
      ),
    )

pub loop-count-preserved : goal.loop-count-preserved
loop-count-preserved g c =
    let pushed : length (take c.in_ok-count.count c.read.new.into) ≡ c.in_ok-count.count =
    omega (
      arith,
      c.read.auto.into,
      c.in_ok-count.ensures.within,
      length-take c.in_ok-count.count c.read.new.into,
    ) in
    let room : c.in_ok-count.count + vec_len c.loop-count.into ≤ c.args.limit + 1 =
    omega (
      arith,
      c.in_ok-count.ensures.within,
      c.piece_len-most.ensures.at_most,
      c.loop-count.invariant.within,
      c.len.ensures,
      length-take c.piece_len-most.result c.loop-count.buffer,
    ) in
    let taken = Consumes-trans _ _ _ _ _ c.loop-count.invariant.taken c.in_ok-count.ensures.taken in
    record {
      within = omega (arith, c.len-in-loop-count.ensures, c.if-len-limit.false);
      no_fault = c.in_ok-count.ensures.no_fault ∙ c.loop-count.invariant.no_fault;
      taken = consumes_same _ _ _ _ (sym c.in_ok-extend_from_slice.ensures.items) taken;
    }

pub returns-then-count-eq0-clause-no_fault : goal.returns-then-count-eq0-clause-no_fault
returns-then-count-eq0-clause-no_fault g c = c.in_ok-count.ensures.no_fault ∙ c.loop-count.invariant.no_fault

pub returns-then-len-limit-clause-too_long_no_fault : goal.returns-then-len-limit-clause-too_long_no_fault
returns-then-len-limit-clause-too_long_no_fault g c =
    λ _. c.in_ok-count.ensures.no_fault ∙ c.loop-count.invariant.no_fault

pub returns-in_err-extend_from_slice-clause-memory_no_fault :
    goal.returns-in_err-extend_from_slice-clause-memory_no_fault
returns-in_err-extend_from_slice-clause-memory_no_fault g c =
    λ _. c.in_ok-count.ensures.no_fault ∙ c.loop-count.invariant.no_fault
