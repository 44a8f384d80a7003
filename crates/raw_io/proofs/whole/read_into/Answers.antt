use Rattle.std.proofs.Common.{◌≡◌, take, length, refl, ◌∙◌, ap, arith, length-take, vec_len}
use Rattle.raw_io.proofs.Pieces.{rises_last, prefix_none, prefix_more, prefix_all, reads_past, reads_told}
use Rattle.raw_io.proofs.whole.read_into.Goals as goal

pub loop-count-init : goal.loop-count-init
loop-count-init g c =
    let none : vec_len c.args.whole.now ≡ 0 = omega (arith, c.args.whole.now.ok.0, ap length c.requires.empty) in
    record {
      within = omega arith;
      contents = λ other. refl;
      no_fault = λ other. refl;
      prefix = prefix_none _ _ _ none c.requires.empty;
    }

pub returns-in_err-count-clause-contents : goal.returns-in_err-count-clause-contents
returns-in_err-count-clause-contents g c =
    λ other. c.read.ensures.contents other ∙ c.loop-count.invariant.contents other

pub returns-in_err-count-clause-counts : goal.returns-in_err-count-clause-counts
returns-in_err-count-clause-counts g c =
    λ other. omega (arith, c.read.ensures.counts other, c.loop-count.invariant.no_fault other)

pub returns-in_err-count-clause-failed : goal.returns-in_err-count-clause-failed
returns-in_err-count-clause-failed g c =
    λ _. rises_last _ _ _ (omega (arith, c.loop-count.invariant.no_fault c.args.name.now)) c.in_err-count.ensures.failed

pub returns-then-count-eq0-clause-contents : goal.returns-then-count-eq0-clause-contents
returns-then-count-eq0-clause-contents g c =
    λ other. c.read.ensures.contents other ∙ c.loop-count.invariant.contents other

pub returns-then-count-eq0-clause-whole : goal.returns-then-count-eq0-clause-whole
returns-then-count-eq0-clause-whole g c =
    let read = reads_told _ _ c.read.new.into _ _ c.in_ok-count.count (c.loop-count.invariant.contents c.args.name.now)
    c.len-in-loop-count.ensures c.in_ok-count.ensures.bytes in
    prefix_all _ c.loop-count.whole.items c.read.new.into _ _
    (omega (
      arith,
      c.read.auto.into,
      c.piece_len-most.ensures.some,
      c.piece_len-most.ensures.within,
      c.len-in-loop-count.ensures,
      length-take c.piece_len-most.result c.loop-count.buffer,
    ))
    c.if-count-eq0.true c.loop-count.invariant.prefix read

pub returns-then-count-room-clause-contents : goal.returns-then-count-room-clause-contents
returns-then-count-room-clause-contents g c =
    λ other. c.read.ensures.contents other ∙ c.loop-count.invariant.contents other

pub returns-then-count-room-clause-too_long : goal.returns-then-count-room-clause-too_long
returns-then-count-room-clause-too_long g c = λ _.
    let read = reads_told _ _ c.read.new.into _ _ c.in_ok-count.count (c.loop-count.invariant.contents c.args.name.now)
    c.len-in-loop-count.ensures c.in_ok-count.ensures.bytes in
    reads_past _ c.read.new.into c.args.limit _ c.in_ok-count.count c.loop-count.invariant.within
    (omega (arith, c.if-count-room.true, c.len.ensures)) read

pub loop-count-preserved : goal.loop-count-preserved
loop-count-preserved g c =
    let read = reads_told _ _ c.read.new.into _ _ c.in_ok-count.count (c.loop-count.invariant.contents c.args.name.now)
    c.len-in-loop-count.ensures c.in_ok-count.ensures.bytes in
    let pushed : length (take c.in_ok-count.count c.read.new.into) ≡ c.in_ok-count.count =
    omega (
      arith,
      c.read.auto.into,
      c.in_ok-count.ensures.within,
      length-take c.in_ok-count.count c.read.new.into,
    ) in
    record {
      within = omega (arith, pushed, c.if-count-room.false, c.in_ok-extend_from_slice.ensures.len, c.len.ensures);
      contents = λ other. c.read.ensures.contents other ∙ c.loop-count.invariant.contents other;
      no_fault = λ other. c.in_ok-count.ensures.no_fault other ∙ c.loop-count.invariant.no_fault other;
      prefix = prefix_more _ _ _ _ _ _ c.in_ok-count.count c.in_ok-extend_from_slice.ensures.items
          (omega (arith, pushed, c.in_ok-extend_from_slice.ensures.len)) c.loop-count.invariant.prefix read;
    }

pub returns-in_err-extend_from_slice-clause-contents : goal.returns-in_err-extend_from_slice-clause-contents
returns-in_err-extend_from_slice-clause-contents g c =
    λ other. c.read.ensures.contents other ∙ c.loop-count.invariant.contents other

pub returns-in_err-extend_from_slice-clause-counts : goal.returns-in_err-extend_from_slice-clause-counts
returns-in_err-extend_from_slice-clause-counts g c =
    λ other. omega (arith, c.read.ensures.counts other, c.loop-count.invariant.no_fault other)

pub returns-then-count-eq0-clause-no_fault : goal.returns-then-count-eq0-clause-no_fault
returns-then-count-eq0-clause-no_fault g c =
    λ other. c.in_ok-count.ensures.no_fault other ∙ c.loop-count.invariant.no_fault other

pub returns-then-count-room-clause-too_long_no_fault : goal.returns-then-count-room-clause-too_long_no_fault
returns-then-count-room-clause-too_long_no_fault g c =
    λ _ other. c.in_ok-count.ensures.no_fault other ∙ c.loop-count.invariant.no_fault other

pub returns-in_err-extend_from_slice-clause-memory_no_fault :
    goal.returns-in_err-extend_from_slice-clause-memory_no_fault
returns-in_err-extend_from_slice-clause-memory_no_fault g c =
    λ _ other. c.in_ok-count.ensures.no_fault other ∙ c.loop-count.invariant.no_fault other
