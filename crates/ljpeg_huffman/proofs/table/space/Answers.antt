use Rattle.std.proofs.Common.{arith, get_or}
use Rattle.ljpeg_huffman.proofs.WalkLemmas.{space_more, space_shifted, space_all}
use Rattle.ljpeg_huffman.proofs.table.space.Goals as goal

pub loop-place-preserved : goal.loop-place-preserved
loop-place-preserved c =
    let counts = c.args.counts.now in
    let place = c.loop-place.place in
    let shifted = space_shifted (get_or counts place 0) place (omega arith) in
    let more = space_more counts place (omega arith) (omega arith) in
    (omega (arith, shifted.0, more), omega (arith, shifted.0, shifted.1), c.loop-place.invariant.2)

pub returns : goal.returns
returns c =
    omega (arith, space_all c.args.counts.now c.loop-place.place c.loop-place.invariant.2 (omega arith))
