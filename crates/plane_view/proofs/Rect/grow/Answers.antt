use Rattle.std.proofs.Common.{rules, ◌≡◌, ◌↔◌, subst}
use Rattle.plane_view.specs.declared.Rect.{Rect}
use Rattle.plane_view.specs.Rectangles.{HasPixel, IsNearPixel, grown}
use Rattle.plane_view.proofs.Growth.{grown_pixels}
use Rattle.plane_view.proofs.Rect.grow.Goals as goal

pub returns-clause-pixels : goal.returns-clause-pixels
returns-clause-pixels c some r col =
    let rect : Rect = c.args.self.now in
    let whole : Rect = c.args.whole.now in
    let is : grown rect c.args.by whole ≡ record {
      top = c.max.result;
      left = c.max-2.result;
      bottom = c.min.result;
      right = c.min-2.result;
    } = search rules in
    subst (λ (now : Rect). HasPixel now r col ↔ (HasPixel whole r col × IsNearPixel rect c.args.by r col)) is
    (grown_pixels rect whole c.args.by some r col)
