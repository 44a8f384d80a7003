use Rattle.std.proofs.lemmas.Result.{err_from_is_err_and}
use Rattle.dev_stages.proofs.PlanLemmas.{linear_refused}
use Rattle.dev_stages.proofs.planning.linear_stage.Goals as goal

pub returns-in_err-linear-clause-fault : goal.returns-in_err-linear-clause-fault
returns-in_err-linear-clause-fault c =
    let p = err_from_is_err_and c.from_residual.result c.from_residual.ensures.1 in
    rw (p.1, p.2) (linear_refused c.args.frame.now c.args.settings.now c.in_err-linear.field-0.0
    c.in_err-linear.ensures.fault)
