use Rattle.std.proofs.Common.{rules, ◌≡◌, ℕ, List, length, ◌∙◌, sym, subst, ap, arith}
use Rattle.plane_view.specs.declared.Shape.{Shape}
use Rattle.plane_view.specs.Plane.{Plane}
use Rattle.stage_core.specs.Planes.{IsPlane}
use Rattle.stage_chain.specs.inner.Samples.{plane_with}
use Rattle.stage_chain.proofs.WholeViews.{plane_is, written_whole}
use Rattle.stage_chain.proofs.running.make.Goals as goal

pub returns-clause-made : goal.returns-clause-made
returns-clause-made g c =
    let s = c.args.stage.now in
    let P : Plane = c.args.plane.now in
    let Q : Plane = g.S.Stage.apply s P in
    let whole : Shape = c.shape-whole.result in
    let shape : Shape = c.in-Some.shape in
    let out : List ℕ = c.run_whole.new.out in
    let is_P : IsPlane P whole = c.shape-whole.ensures.plane in
    let takes = subst (λ (t : Shape). g.S.Stage.takes s t) (sym c.shape-whole.ensures.shape) c.requires in
    let made : shape ≡ g.S.Stage.shaped s whole = search rules in
    let is_Q : IsPlane Q shape =
    subst (IsPlane Q) (sym made) (g.met.S.Stage.makes_planes s whole P c.shape-whole.ensures.limits takes is_P) in
    let input : plane_with whole c.deref.result.now ≡ P =
    plane_is whole P c.deref.result.now is_P (c.deref.ensures.value ∙ ap (λ (X : Plane). X.samples) c.plane.view_is)
    in
    let samples : out ≡ Q.samples = c.run_whole.ensures.samples
    ∙ ap (λ (X : Plane). (g.S.Stage.apply s X).samples) input in
    let long : c.resize.new.self.len ≡ length out = omega (arith, c.deref_mut.ensures.len, c.run_whole.auto.out) in
    plane_is shape Q _ is_Q (written_whole c.resize.new.self.len out c.resize.new.self.items long ∙ samples)
