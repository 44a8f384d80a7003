use Rattle.std.proofs.Common.{arith}
use Rattle.ljpeg_huffman.proofs.WalkLemmas.{first_below, index_below, stands_at_start, stands_next, stands_found}
use Rattle.ljpeg_huffman.proofs.WalkLemmas.{stands_at_end}
use Rattle.ljpeg_huffman.proofs.table.walk.Goals as goal

pub loop-place-init : goal.loop-place-init
loop-place-init c = stands_at_start c.args.counts.now c.args.values.now c.args.window

pub overflow_sub-category : goal.overflow_sub-category
overflow_sub-category c =
    let at = c.loop-place in
    first_below c.args.counts.now c.args.values.now c.args.window at.place at.first at.start
    (omega arith) c.told-counts at.invariant

pub bounds-values-start : goal.bounds-values-start
bounds-values-start c =
    let at = c.loop-place in
    index_below c.args.counts.now c.args.values.now c.args.window at.place at.first at.start
    (omega arith) c.told-counts at.invariant c.if-code-first.true c.requires.table.total

pub returns-then-code-first-clause-found : goal.returns-then-code-first-clause-found
returns-then-code-first-clause-found c =
    let at = c.loop-place in
    stands_found c.args.counts.now c.args.values.now c.args.window at.place at.first at.start
    (omega arith) c.told-counts at.invariant c.if-code-first.true c.requires.table.total

pub loop-place-preserved : goal.loop-place-preserved
loop-place-preserved c =
    let at = c.loop-place in
    stands_next c.args.counts.now c.args.values.now c.args.window at.place at.first at.start
    (omega arith) c.told-counts at.invariant c.if-code-first.false

pub returns-clause-none : goal.returns-clause-none
returns-clause-none c =
    let at = c.loop-place in
    stands_at_end c.args.counts.now c.args.values.now c.args.window at.place at.first at.start c.told-counts
    (omega arith) at.invariant
