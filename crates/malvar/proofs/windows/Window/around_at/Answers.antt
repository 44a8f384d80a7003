use Rattle.std.proofs.Common.{◌≡◌, ℤ, ◌+◌, ◌-◌, pos, ◌-ℤ◌, ◌∙◌, ap, arith}
use Rattle.std.proofs.lemmas.Int.{ints}
use Rattle.plane_view.specs.Reflect.{reflected}
use Rattle.malvar.specs.Demosaic.{reach_of}
use Rattle.malvar.specs.inner.Rows.{around_by}
use Rattle.malvar.proofs.windows.Window.around_at.Goals as goal

pub returns-clause-sums : goal.returns-clause-sums
returns-clause-sums c =
    let w = c.args.self.now in
    let at = c.args.c in
    let by = reach_of c.args.kind in
    let place = λ (z : ℤ). reflected w.cols z - w.left in
    let far_left : c.place.result ≡ reflected w.cols (pos at -ℤ pos by) - w.left = c.place.ensures
    ∙ ap place {y = pos at -ℤ pos by} (omega (arith, ints)) in
    let left : c.place-2.result ≡ reflected w.cols (pos at -ℤ pos 1) - w.left = c.place-2.ensures
    ∙ ap place {y = pos at -ℤ pos 1} (omega (arith, ints)) in
    let right : c.place-3.result ≡ reflected w.cols (pos (at + 1)) - w.left = c.place-3.ensures
    ∙ ap place {y = pos (at + 1)} (omega (arith, ints)) in
    let far_right : c.place-4.result ≡ reflected w.cols (pos (at + by)) - w.left = c.place-4.ensures
    ∙ ap place {y = pos (at + by)} (omega (arith, ints)) in
    c.around_by.ensures.sums ∙ (λ i. around_by w (far_left i) (left i) (at - w.left) (right i) (far_right i))
