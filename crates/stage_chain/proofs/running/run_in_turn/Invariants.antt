use Rattle.std.proofs.Common.{◌≡◌, ◌+◌, drop}
use Rattle.stage_core.specs.Stages.{shape_of}
use Rattle.stage_chain.specs.Chains.{TakeInTurn, whole_of}
use Rattle.stage_chain.proofs.running.run_in_turn.Given as goal

-- the stages that are left make of the plane what all make of the first one
abbrev pub invariant-loop-stage : goal.invariant-loop-stage
invariant-loop-stage g l = record {
  takes : TakeInTurn g.S.Stage.takes g.S.Stage.shaped (drop l.stage-index l.stages) (shape_of l.plane);
  same : whole_of g.S.Stage.apply (drop l.stage-index l.stages) l.plane ≡ whole_of g.S.Stage.apply l.stages l.fn.plane;
  work : l.work ≡ l.fn.work + l.stage-index;
}
