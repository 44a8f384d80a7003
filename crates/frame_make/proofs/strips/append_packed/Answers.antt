use Rattle.std.proofs.Common.{◌≡◌, ◌+◌, ◌*◌, ◌<◌, ◌/◌, length, arith}
use Rattle.frame_make.proofs.Packing.{last_more, packed_none, two_more}
use Rattle.frame_make.proofs.strips.append_packed.Goals as goal

pub loop-k-init : goal.loop-k-init
loop-k-init c = packed_none c.args.out.now.items

pub loop-k-preserved : goal.loop-k-preserved
loop-k-preserved c =
    let k = c.loop-k.k in
    let within : 2 * k + 1 < length c.args.samples.now = omega arith in
    let more = two_more c.args.out.now.items c.args.samples.now k within c.requires in
    let pushed = c.in_ok-extend_from_slice.ensures.items in
    let bytes = c.pair_bytes.ensures in
    cc

pub returns-in_ok-extend_from_slice-2 : goal.returns-in_ok-extend_from_slice-2
returns-in_ok-extend_from_slice-2 c =
    let k = c.loop-k.k in
    let last : 2 * k + 1 ≡ length c.args.samples.now = omega arith in
    let half : length c.args.samples.now / 2 ≡ k = omega arith in
    let more = last_more c.args.out.now.items c.args.samples.now k last c.requires in
    let pushed = c.in_ok-extend_from_slice-2.ensures.items in
    let bytes = c.last_bytes.ensures in
    cc
