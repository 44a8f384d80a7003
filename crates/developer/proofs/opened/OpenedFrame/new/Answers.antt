use Rattle.std.proofs.Common.{rules, sym, subst}
use Rattle.plane_view.specs.Plane.{Plane}
use Rattle.stage_core.specs.Stages.{shape_of}
use Rattle.stage_chain.specs.Chains.{TakeInTurn}
use Rattle.dev_stages.specs.Members.{shaped_of, takes_of}
use Rattle.developer.specs.Opening.{begun_over}
use Rattle.developer.specs.Sessions.{in_force}
use Rattle.developer.specs.inner.Shown.{option_view}
use Rattle.developer.proofs.Chaining.{never_refused}
use Rattle.developer.proofs.Development.{few_stages, plan_takes, planned_stages}
use Rattle.developer.proofs.opened.OpenedFrame.new.Goals as goal

pub open-requires-clause-some : goal.open-requires-clause-some
open-requires-clause-some c =
    (few_stages c.requires.read.0 c.args.frame c.args.planned.settings c.args.planned.stages.items c.requires.read.1
    c.requires.planned.stages).0

pub open-requires-clause-few : goal.open-requires-clause-few
open-requires-clause-few c =
    (few_stages c.requires.read.0 c.args.frame c.args.planned.settings c.args.planned.stages.items c.requires.read.1
    c.requires.planned.stages).1

pub unreachable-requires : goal.unreachable-requires
unreachable-requires c =
    let frame = c.args.frame in
    let stages = c.args.planned.stages.items in
    let takes = subst (λ (P : Plane). TakeInTurn takes_of shaped_of stages (shape_of P)) (sym c.requires.read.2)
    (plan_takes c.requires.read.0 frame c.args.planned.settings stages c.requires.read.1 c.requires.planned.stages)
    in
    never_refused stages (shape_of c.args.segments.plane) c.in-Err-Shape.field-0-0 takes
    (c.in-Err-Shape.ensures.refused c.in-Err-Shape.field-0-0 c.in-Err-Shape.field-0-is)

pub returns-in-Ok : goal.returns-in-Ok
returns-in-Ok c =
    rw (
      c.in-Ok.ensures.opened,
      c.from.ensures,
      planned_stages c.args.frame c.args.planned.settings
          c.args.planned.stages.items c.requires.planned.stages,
    ) (search rules)
