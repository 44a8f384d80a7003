use Rattle.std.proofs.Common.{◌≡◌, ◌<◌, get_or, sym, subst}
use Rattle.plane_view.specs.Rectangles.{HasPixel}
use Rattle.plane_view.specs.Lent.{Lent, place_in, sample_at}
use Rattle.plane_view.proofs.Parts.{part_at}
use Rattle.plane_view.proofs.views.View.at.Goals as goal

pub returns : goal.returns
returns c =
    let v = c.self.inside in
    let lender : Lent = record { rect = v.home; planes = v.planes; samples = v.samples.now } in
    let P : Lent → Type 0 = λ V. HasPixel V.rect c.args.r c.args.c → c.args.p < V.planes
    → get_or v.samples.now (place_in v.home v.planes c.args.r c.args.c c.args.p) 0 ≡ sample_at V c.args.r c.args.c
    c.args.p in
    subst P c.self.view_is (λ pixel plane. sym (part_at lender v.rect c.args.r c.args.c c.args.p pixel plane))
    c.requires.pixel c.requires.plane
