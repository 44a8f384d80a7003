use Rattle.std.proofs.Common.{ap, ◌∙◌}
use Rattle.dng_tags.specs.Raw.{coding_of}
use Rattle.frame_segments.specs.Opened.{OpenedSegments}
use Rattle.frame_segments.proofs.Opening.{plane_planes}
use Rattle.frame_tests.proofs.fetching.read_back.Goals as goal

pub fetched-requires-clause-planes : goal.fetched-requires-clause-planes
fetched-requires-clause-planes c =
    let frame = c.in_ok-frame.frame in
    ap (λ (o : OpenedSegments). o.plane.planes) c.in_ok-segments.ensures.opened
    ∙ plane_planes c.args.file.now (coding_of frame) frame.shape frame.segments
