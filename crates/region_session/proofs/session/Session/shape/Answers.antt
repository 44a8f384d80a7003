use Rattle.std.proofs.Common.{◌≡◌, ◌-◌, length, Some, slice_get, refl, sym, ◌∙◌, ap, subst, arith}
use Rattle.std.proofs.lemmas.List.{take_all}
use Rattle.std.proofs.lemmas.Option.{slice_get_read}
use Rattle.plane_view.specs.declared.Shape.{Shape}
use Rattle.plane_view.specs.Plane.{Plane}
use Rattle.plane_view.specs.Shapes.{IsShape}
use Rattle.stage_chain.specs.Chains.{TakeInTurn, whole_of}
use Rattle.stage_core.proofs.Formulas.{shape_is}
use Rattle.stage_core.specs.Planes.{IsPlane}
use Rattle.stage_core.specs.Stages.{shape_of}
use Rattle.region_session.specs.Stacks.{last_shape}
use Rattle.region_session.proofs.Layering.{in_turn, layer_of}
use Rattle.region_session.proofs.Tiering.{whole_is}
use Rattle.region_session.proofs.Top.{as_many}
use Rattle.region_session.proofs.session.Session.shape.Goals as goal

pub overflow_sub-len : goal.overflow_sub-len
overflow_sub-len g c =
    let s = c.self.inside in
    omega (
      arith,
      as_many g.S.Stage.takes g.S.Stage.shaped (shape_of (g.B.Base.plane s.source.base)) s.stages.items
          s.layers.items c.self.invariant.stand,
      c.self.invariant.some,
      c.len.ensures,
      s.layers.ok,
    )

pub index-requires : goal.index-requires
index-requires g c =
    let s = c.self.inside in
    omega (
      arith,
      as_many g.S.Stage.takes g.S.Stage.shaped (shape_of (g.B.Base.plane s.source.base)) s.stages.items
          s.layers.items c.self.invariant.stand,
      c.self.invariant.some,
      c.len.ensures,
      s.layers.ok,
    )

pub returns-clause-shape : goal.returns-clause-shape
returns-clause-shape g c =
    let s = c.self.inside in
    let takes = g.S.Stage.takes in
    let shaped = g.S.Stage.shaped in
    let input : Shape = shape_of (g.B.Base.plane s.source.base) in
    let stages = s.stages.items in
    let many = as_many takes shaped input stages s.layers.items c.self.invariant.stand in
    let place : c.len.result - 1 ≡ length stages - 1 = omega (arith, many, c.len.ensures, s.layers.ok) in
    let here : slice_get s.layers.items (c.len.result - 1) ≡ Some c.index.result.now =
    slice_get_read s.layers.items (length s.layers.items) (c.len.result - 1) c.index.result.now refl
    (omega (arith, many, c.self.invariant.some, c.len.ensures, s.layers.ok)) c.index.ensures in
    let at : slice_get s.layers.items (length stages - 1) ≡ Some c.index.result.now =
    ap (slice_get s.layers.items) (sym place) ∙ here in
    let of = layer_of takes shaped input stages s.layers.items (length stages) c.index.result.now c.self.invariant.stand
    c.self.invariant.some (omega arith) at in
    subst (λ (v : _). c.index.result.now.shape ≡ last_shape shaped (shape_of v.plane) v.stages) c.self.view_is
    (of.makes ∙ ap (last_shape shaped input) (take_all (length stages) stages (omega arith)))

pub returns-clause-limits : goal.returns-clause-limits
returns-clause-limits g c =
    let s = c.self.inside in
    let takes = g.S.Stage.takes in
    let shaped = g.S.Stage.shaped in
    let input : Shape = shape_of (g.B.Base.plane s.source.base) in
    let stages = s.stages.items in
    let many = as_many takes shaped input stages s.layers.items c.self.invariant.stand in
    let place : c.len.result - 1 ≡ length stages - 1 = omega (arith, many, c.len.ensures, s.layers.ok) in
    let here : slice_get s.layers.items (c.len.result - 1) ≡ Some c.index.result.now =
    slice_get_read s.layers.items (length s.layers.items) (c.len.result - 1) c.index.result.now refl
    (omega (arith, many, c.self.invariant.some, c.len.ensures, s.layers.ok)) c.index.ensures in
    let at : slice_get s.layers.items (length stages - 1) ≡ Some c.index.result.now =
    ap (slice_get s.layers.items) (sym place) ∙ here in
    let of = layer_of takes shaped input stages s.layers.items (length stages) c.index.result.now c.self.invariant.stand
    c.self.invariant.some (omega arith) at in
    subst IsShape (sym of.is.shape) (g.met.S.Stage.makes_shapes of.stage c.index.result.now.input of.is.input
    of.is.taken)

pub returns-clause-takes : goal.returns-clause-takes
returns-clause-takes g c =
    let s = c.self.inside in
    let takes = g.S.Stage.takes in
    let shaped = g.S.Stage.shaped in
    subst (λ (v : _). TakeInTurn takes shaped v.stages (shape_of v.plane)) c.self.view_is
    (in_turn takes shaped (shape_of (g.B.Base.plane s.source.base)) s.stages.items s.layers.items
    c.self.invariant.stand)

pub returns-clause-plane : goal.returns-clause-plane
returns-clause-plane g c =
    let s = c.self.inside in
    let shaped = g.S.Stage.shaped in
    let apply = g.S.Stage.apply in
    let P : Plane = g.B.Base.plane s.source.base in
    let input : Shape = shape_of P in
    let is : c.shape-base.result ≡ input = sym (shape_is P c.shape-base.result c.shape-base.ensures.plane) in
    let limits : IsShape input = subst IsShape is c.shape-base.ensures.shape in
    let plane : IsPlane P input = subst (IsPlane P) is c.shape-base.ensures.plane in
    let whole = whole_is g.S.Stage.takes shaped apply g.met.S.Stage.makes_shapes g.met.S.Stage.makes_planes input
    s.stages.items s.layers.items P c.self.invariant.stand limits plane in
    subst (IsPlane (whole_of apply c.args.self.now.stages c.args.self.now.plane)) (sym (returns-clause-shape g c))
    (subst (λ (v : _). IsPlane (whole_of apply v.stages v.plane) (last_shape shaped (shape_of v.plane) v.stages))
    c.self.view_is whole)
