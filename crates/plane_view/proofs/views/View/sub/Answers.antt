use Rattle.std.proofs.Common.{◌≡◌, sym, subst}
use Rattle.plane_view.specs.Rectangles.{LiesIn}
use Rattle.plane_view.specs.Lent.{Lent, part_of}
use Rattle.plane_view.proofs.Parts.{part_of_part}
use Rattle.plane_view.proofs.views.View.sub.Goals as goal

pub returns : goal.returns
returns c =
    let v = c.self.inside in
    let lender : Lent = record { rect = v.home; planes = v.planes; samples = v.samples.now } in
    let P : Lent → Type 0 = λ V. LiesIn c.args.rect V.rect → part_of lender c.args.rect ≡ part_of V c.args.rect in
    subst P c.self.view_is (λ lies. sym (part_of_part lender v.rect c.args.rect lies)) c.requires
