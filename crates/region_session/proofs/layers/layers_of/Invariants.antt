use Rattle.std.proofs.Common.{◌≡◌, take}
use Rattle.plane_view.specs.Shapes.{IsShape}
use Rattle.region_session.specs.inner.Layers.{AreLayers}
use Rattle.region_session.specs.Stacks.{last_shape}
use Rattle.region_session.proofs.layers.layers_of.Given as goal

-- the layers of the stages so far
abbrev pub invariant-loop-stage : goal.invariant-loop-stage
invariant-loop-stage g l = record {
  shape : IsShape l.input;
  is : l.input ≡ last_shape g.S.Stage.shaped l.fn.input (take l.stage-index l.stages);
  stand : AreLayers g.S.Stage.takes g.S.Stage.shaped l.fn.input (take l.stage-index l.stages) l.layers.items;
}
