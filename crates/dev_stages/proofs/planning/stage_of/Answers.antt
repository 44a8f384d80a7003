use Rattle.dev_stages.proofs.ChangeLemmas.{replaces}
use Rattle.dev_stages.proofs.planning.stage_of.Goals as goal

pub returns-clause-replaces : goal.returns-clause-replaces
returns-clause-replaces c =
    replaces c.args.frame.now c.args.change.now c.args.settings.now c.number_of.result c.in_ok-stage.stage
    c.number_of.ensures c.in_ok-stage.ensures.stage
