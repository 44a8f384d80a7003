use Rattle.std.proofs.Common.{◌∷◌, ◌++◌, [], List, Ok, sym, ◌∙◌, ap}
use Rattle.std.proofs.lemmas.Result.{err_from_is_err_and}
use Rattle.dev_stages.specs.declared.stage.DevStage.{DevStage}
use Rattle.dev_stages.specs.declared.stage.DevStage.TheVariants as stage
use Rattle.dev_stages.specs.Listed.{listed}
use Rattle.dev_stages.specs.Plans.{balance_stage, demosaic_stage, tone_stage}
use Rattle.dev_stages.proofs.ChangeLemmas.{planned_low, planned_ok}
use Rattle.dev_stages.proofs.PlanLemmas.{in_parts, takes_planned}
use Rattle.dev_stages.proofs.planning.plan.Goals as goal

pub returns-in_err-linear-clause-fault : goal.returns-in_err-linear-clause-fault
returns-in_err-linear-clause-fault c =
    let p = err_from_is_err_and c.from_residual-in_err-linear.result c.from_residual-in_err-linear.ensures.1 in
    rw (p.1, p.2) (λ not_memory. planned_low c.args.frame.now c.args.settings.now c.in_ok-matrix.matrix
    c.in_err-linear.field-0.0 c.in_ok-matrix.ensures.stage (c.in_err-linear.ensures.fault not_memory))

pub returns-clause-stages : goal.returns-clause-stages
returns-clause-stages c =
    let frame = c.args.frame.now in
    let settings = c.args.settings.now in
    let linear = c.in_ok-linear.linear in
    let matrix = c.in_ok-matrix.matrix in
    let first = c.in_ok-stages.ensures in
    let second = c.in_ok-push_coloured.ensures in
    let third = c.in_ok-push_last.ensures in
    let coloured : List DevStage = demosaic_stage frame settings ∷ (listed frame.list3
    ++ (stage.Crop (record { rect = frame.crop }) ∷ [])) in
    let last : List DevStage = balance_stage frame settings ∷ matrix ∷ tone_stage settings ∷ [] in
    let all = third ∙ ap (λ (xs : List DevStage). xs ++ last) (second
    ∙ ap (λ (xs : List DevStage). xs ++ coloured) first) ∙ in_parts frame linear (demosaic_stage frame settings)
    (balance_stage frame settings) matrix (tone_stage settings) in
    planned_ok frame settings matrix linear c.in_ok-matrix.ensures.stage c.in_ok-linear.ensures.stage
    ∙ ap (λ (xs : List DevStage). Ok xs) (sym all)

pub returns-clause-chain : goal.returns-clause-chain
returns-clause-chain c =
    takes_planned c.args.frame.now c.args.settings.now c.push_last.new.stages.items c.requires.frame
    (returns-clause-stages c)
