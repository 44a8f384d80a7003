use Rattle.std.proofs.Common.{rules, ◌≡◌, ℕ, ◌-◌, ◌≤◌, length, Some, slice_get, refl, sym, ◌∙◌, ap, subst, arith}
use Rattle.std.proofs.lemmas.List.{length-set}
use Rattle.std.proofs.lemmas.Option.{slice_get_read}
use Rattle.plane_view.specs.declared.Shape.{Shape}
use Rattle.plane_view.specs.Plane.{Plane}
use Rattle.stage_core.specs.Stages.{shape_of}
use Rattle.stage_chain.specs.Chains.{TakeInTurn}
use Rattle.stage_deps.specs.Stamping.{Stamped}
use Rattle.tile_cache.specs.Pairs.{Cache}
use Rattle.region_session.specs.Stacks.{IsShapeOver, plane_shape}
use Rattle.region_session.proofs.Layering.{in_turn, layer_of, layers_set, shape_over}
use Rattle.region_session.proofs.Replacing.{Changes, base_kept, replaced_right}
use Rattle.region_session.proofs.Top.{as_many}
use Rattle.region_session.proofs.session.Session.replace.Goals as goal

pub index-requires : goal.index-requires
index-requires g c =
    let s = c.self.inside in
    let within : c.args.k ≤ length s.stages.items = subst (λ (v : _). c.args.k ≤ length v.stages) (sym c.self.view_is)
    c.requires.most in
    omega (
      arith,
      as_many g.S.Stage.takes g.S.Stage.shaped (shape_of (g.B.Base.plane s.source.base)) s.stages.items
          s.layers.items c.self.invariant.stand,
      within,
      c.requires.least,
      s.layers.ok,
    )

pub shape-got-requires : goal.shape-got-requires
shape-got-requires g c =
    let s = c.self.inside in
    let takes = g.S.Stage.takes in
    let shaped = g.S.Stage.shaped in
    let input : Shape = shape_of (g.B.Base.plane s.source.base) in
    let stages = s.stages.items in
    let k : ℕ = c.args.k in
    let layer = c.index.result.now in
    let within : k ≤ length stages = subst (λ (v : _). k ≤ length v.stages) (sym c.self.view_is) c.requires.most in
    let many = as_many takes shaped input stages s.layers.items c.self.invariant.stand in
    let at : slice_get s.layers.items (k - 1) ≡ Some layer = slice_get_read s.layers.items (length s.layers.items)
    (k - 1) layer refl (omega (arith, many, within, c.requires.least, s.layers.ok)) c.index.ensures in
    let of = layer_of takes shaped input stages s.layers.items k layer c.self.invariant.stand c.requires.least within at
    in
    of.is.input

pub returns-then-ne-clause-had : goal.returns-then-ne-clause-had
returns-then-ne-clause-had g c =
    let s = c.self.inside in
    let takes = g.S.Stage.takes in
    let shaped = g.S.Stage.shaped in
    let input : Shape = shape_of (g.B.Base.plane s.source.base) in
    let stages = s.stages.items in
    let k : ℕ = c.args.k in
    let layer = c.index.result.now in
    let within : k ≤ length stages = subst (λ (v : _). k ≤ length v.stages) (sym c.self.view_is) c.requires.most in
    let many = as_many takes shaped input stages s.layers.items c.self.invariant.stand in
    let at : slice_get s.layers.items (k - 1) ≡ Some layer = slice_get_read s.layers.items (length s.layers.items)
    (k - 1) layer refl (omega (arith, many, within, c.requires.least, s.layers.ok)) c.index.ensures in
    let of = layer_of takes shaped input stages s.layers.items k layer c.self.invariant.stand c.requires.least within at
    in
    subst (λ (v : _). layer.shape ≡ plane_shape shaped (shape_of v.plane) v.stages k) c.self.view_is of.makes

pub returns-then-ne-clause-got : goal.returns-then-ne-clause-got
returns-then-ne-clause-got g c =
    let s = c.self.inside in
    let takes = g.S.Stage.takes in
    let shaped = g.S.Stage.shaped in
    let input : Shape = shape_of (g.B.Base.plane s.source.base) in
    let stages = s.stages.items in
    let k : ℕ = c.args.k in
    let layer = c.index.result.now in
    let within : k ≤ length stages = subst (λ (v : _). k ≤ length v.stages) (sym c.self.view_is) c.requires.most in
    let many = as_many takes shaped input stages s.layers.items c.self.invariant.stand in
    let at : slice_get s.layers.items (k - 1) ≡ Some layer = slice_get_read s.layers.items (length s.layers.items)
    (k - 1) layer refl (omega (arith, many, within, c.requires.least, s.layers.ok)) c.index.ensures in
    let of = layer_of takes shaped input stages s.layers.items k layer c.self.invariant.stand c.requires.least within at
    in
    let over : IsShapeOver takes shaped c.args.stage layer.input c.shape-got.result =
    shape_over takes shaped c.args.stage layer.input c.shape-got.result c.shape-got.ensures.none.0
    c.shape-got.ensures.some in
    subst (λ (v : _). IsShapeOver takes shaped c.args.stage (plane_shape shaped (shape_of v.plane) v.stages (k - 1))
    c.shape-got.result) c.self.view_is
    (subst (λ (t : Shape). IsShapeOver takes shaped c.args.stage t c.shape-got.result) of.stands over)

pub invariant_of-self : goal.invariant_of-self
invariant_of-self g c =
    let s = c.self.inside in
    let takes = g.S.Stage.takes in
    let shaped = g.S.Stage.shaped in
    let input : Shape = shape_of (g.B.Base.plane s.source.base) in
    let stages = s.stages.items in
    let k : ℕ = c.args.k in
    let layer = c.index.result.now in
    let within : k ≤ length stages = subst (λ (v : _). k ≤ length v.stages) (sym c.self.view_is) c.requires.most in
    let many = as_many takes shaped input stages s.layers.items c.self.invariant.stand in
    let at : slice_get s.layers.items (k - 1) ≡ Some layer = slice_get_read s.layers.items (length s.layers.items)
    (k - 1) layer refl (omega (arith, many, within, c.requires.least, s.layers.ok)) c.index.ensures in
    let got : c.shape-got.result ≡ Some layer.shape = search rules in
    let over : IsShapeOver takes shaped c.args.stage layer.input c.shape-got.result =
    shape_over takes shaped c.args.stage layer.input c.shape-got.result c.shape-got.ensures.none.0
    c.shape-got.ensures.some in
    let told = over.some layer.shape got in
    let was = c.self.invariant in
    let P : Plane = g.B.Base.plane s.source.base in
    let former = c.index-2.result.now in
    let here : slice_get stages (k - 1) ≡ Some former = slice_get_read stages (length stages) (k - 1) former refl
    (omega (arith, within, c.requires.least)) c.index-2.ensures in
    let equal = c.eq-equal.result in
    let new = c.change_unless.new.tiles in
    let changes : Changes equal k s.tiles.cells new.cells s.tiles.stamps.stamps new.stamps.stamps = record {
      equal_stamps = λ is. ap (λ (x : Stamped). x.stamps) (c.change_unless.ensures.equal is);
      same_cells = c.change_unless.ensures.cells;
      stale = c.change_unless.ensures.stale;
      holds = c.change_unless.ensures.holds;
      samples = c.change_unless.ensures.samples;
    } in
    let long = length-set stages (k - 1) c.args.stage in
    record {
      same = was.same;
      stand = layers_set takes shaped input stages s.layers.items (k - 1) c.args.stage layer was.stand at told.0 told.1;
      some = omega (arith, long, was.some);
      few = omega (arith, long, was.few);
      room = omega (arith, long, was.room);
      least = was.least;
      most = was.most;
      stamped = omega (arith, long, was.stamped, c.change_unless.ensures.planes);
      slots = ap (λ (d : Cache). d.slots) c.change_unless.ensures.cells ∙ was.slots;
      small = omega (arith, was.small, ap (λ (d : Cache). d.budget) c.change_unless.ensures.cells);
      base_right = base_kept equal k s.tiles.cells new.cells s.tiles.stamps.stamps new.stamps.stamps P
          (g.B.Base.cells_of s.source.base) c.requires.least changes was.base_right;
      right = replaced_right takes shaped g.S.Stage.needed g.S.Stage.apply s.side input P stages k former c.args.stage
          equal s.tiles.cells new.cells s.tiles.stamps.stamps new.stamps.stamps c.requires.least within was.stamped here
          (λ is. g.met.S.Stage.equal_alike former c.args.stage (sym c.eq-equal.ensures ∙ is)) changes was.right;
    }

pub returns-clause-same : goal.returns-clause-same
returns-clause-same g c =
    let s = c.self.inside in
    let takes = g.S.Stage.takes in
    let shaped = g.S.Stage.shaped in
    let input : Shape = shape_of (g.B.Base.plane s.source.base) in
    let stages = s.stages.items in
    let k : ℕ = c.args.k in
    let layer = c.index.result.now in
    let within : k ≤ length stages = subst (λ (v : _). k ≤ length v.stages) (sym c.self.view_is) c.requires.most in
    let many = as_many takes shaped input stages s.layers.items c.self.invariant.stand in
    let at : slice_get s.layers.items (k - 1) ≡ Some layer = slice_get_read s.layers.items (length s.layers.items)
    (k - 1) layer refl (omega (arith, many, within, c.requires.least, s.layers.ok)) c.index.ensures in
    let of = layer_of takes shaped input stages s.layers.items k layer c.self.invariant.stand c.requires.least within at
    in
    let got : c.shape-got.result ≡ Some layer.shape = search rules in
    let over : IsShapeOver takes shaped c.args.stage layer.input c.shape-got.result =
    shape_over takes shaped c.args.stage layer.input c.shape-got.result c.shape-got.ensures.none.0
    c.shape-got.ensures.some in
    let is : c.shape-got.result ≡ Some (plane_shape shaped input stages k) = got ∙ ap Some of.makes in
    subst (λ (v : _). IsShapeOver takes shaped c.args.stage (plane_shape shaped (shape_of v.plane) v.stages (k - 1))
    (Some (plane_shape shaped (shape_of v.plane) v.stages k))) c.self.view_is
    (subst (λ (t : Shape). IsShapeOver takes shaped c.args.stage t (Some (plane_shape shaped input stages k))) of.stands
    (subst (λ (o : _). IsShapeOver takes shaped c.args.stage layer.input o) is over))

pub returns-then-ne-clause-takes : goal.returns-then-ne-clause-takes
returns-then-ne-clause-takes g c =
    let s = c.self.inside in
    subst (λ (v : _). TakeInTurn g.S.Stage.takes g.S.Stage.shaped v.stages (shape_of v.plane)) c.self.view_is
    (in_turn g.S.Stage.takes g.S.Stage.shaped (shape_of (g.B.Base.plane s.source.base)) s.stages.items s.layers.items
    c.self.invariant.stand)

pub returns-clause-takes : goal.returns-clause-takes
returns-clause-takes g c =
    let s = c.self.inside in
    subst (λ (v : _). TakeInTurn g.S.Stage.takes g.S.Stage.shaped v.stages (shape_of v.plane)) c.self.view_is
    (in_turn g.S.Stage.takes g.S.Stage.shaped (shape_of (g.B.Base.plane s.source.base)) s.stages.items s.layers.items
    c.self.invariant.stand)
