use Rattle.std.proofs.Common.{◌∙◌, ap}
use Rattle.region_session.specs.Sessions.{samples_kept}
use Rattle.developer.specs.Sessions.{InForce}
use Rattle.developer.proofs.opened.OpenedFrame.close.Goals as goal

pub returns-clause-idle : goal.returns-clause-idle
returns-clause-idle c = λ idle.
    c.close.ensures.nothing
    (ap (λ (now : InForce). now.session.fetched) c.self.view_is ∙ idle.0)
    (ap (λ (now : InForce). now.session.ran) c.self.view_is ∙ idle.1)
    (ap (λ (now : InForce). samples_kept now.session) c.self.view_is ∙ idle.2)
