use Rattle.std.proofs.Common.{ap, subst}
use Rattle.plane_view.specs.Plane.{Plane}
use Rattle.stage_core.specs.Planes.{IsPlane}
use Rattle.frame_segments.specs.Opened.{OpenedSegments}
use Rattle.frame_segments.proofs.Opening.{plane_has_shape}
use Rattle.frame_segments.proofs.segments.SegmentsBase.shape.Goals as goal

pub returns-clause-plane : goal.returns-clause-plane
returns-clause-plane c =
    let s = c.self.inside in
    let P : Plane → Type 0 = λ plane. IsPlane plane s.shape in
    subst P (ap (λ (o : OpenedSegments). o.plane) c.self.view_is)
    (plane_has_shape s.coded.bytes.now s.coded.coding s.shape s.segments c.self.invariant.planes)
