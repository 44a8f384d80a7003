use Rattle.std.proofs.Common.{sym, ◌∙◌}
use Rattle.std.proofs.lemmas.Bool.Decides.{same_from_decides}
use Rattle.linearise.specs.Equal.{same_is}
use Rattle.linearise.specs.Parameters.{same_parameters}
use Rattle.linearise.proofs.stage.LinearisePartialEq.eq.Goals as goal

pub returns-clause-value : goal.returns-clause-value
returns-clause-value c =
    same_from_decides c.same.result (same_parameters c.args.self.now c.args.other.now) (
      λ yes. sym c.self.view_is ∙ c.same.ensures.0 yes ∙ c.other.view_is,
      λ same. c.same.ensures.1 (c.self.view_is ∙ same ∙ sym c.other.view_is),
    ) (same_is c.args.self.now c.args.other.now)
