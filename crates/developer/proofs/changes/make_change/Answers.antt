use Rattle.std.proofs.Common.{◌≡◌, ◌-◌, Ok, Err, Some, slice_get, refl, sym, ◌∙◌, ap, subst, arith}
use Rattle.std.proofs.lemmas.Result.{err_from_is_err_and}
use Rattle.stage_core.specs.Stages.{shape_of}
use Rattle.region_session.proofs.Layering.{some_at}
use Rattle.region_session.specs.Sessions.{Opened as Session}
use Rattle.dev_settings.specs.Settings.{changed}
use Rattle.dev_settings.specs.declared.settings.Settings.{Settings}
use Rattle.dev_stages.specs.Changes.{Becomes, replaced}
use Rattle.dev_stages.specs.Plans.{planned}
use Rattle.dev_stages.specs.declared.stage.DevStage.{DevStage}
use Rattle.developer.specs.Replies.{done}
use Rattle.developer.specs.Sessions.{in_force, restaged}
use Rattle.developer.proofs.Chaining.{never_changed}
use Rattle.developer.proofs.Replying.{change_made, change_refused, one_change, restaged_is}
use Rattle.developer.proofs.changes.make_change.Goals as goal

pub replace-requires-clause-least : goal.replace-requires-clause-least
replace-requires-clause-least g c =
    (c.in_ok-number.ensures.replaces c.args.settings.now c.args.session.now.stages c.apply.ensures.settings
    c.requires.in_force.stages).low

pub replace-requires-clause-most : goal.replace-requires-clause-most
replace-requires-clause-most g c =
    (c.in_ok-number.ensures.replaces c.args.settings.now c.args.session.now.stages c.apply.ensures.settings
    c.requires.in_force.stages).high

pub unreachable-requires : goal.unreachable-requires
unreachable-requires g c =
    let b = c.in_ok-number.ensures.replaces c.args.settings.now c.args.session.now.stages c.apply.ensures.settings
    c.requires.in_force.stages in
    c.in-Err.ensures.changed
    (never_changed c.args.session.now.stages (shape_of c.args.session.now.plane) c.in_ok-number.number
    c.in_ok-number.stage c.in-Err.field-0.had c.in-Err.field-0.got
    b.low b.high c.replace.ensures.takes b.like c.in-Err.ensures.had c.in-Err.ensures.got)

pub returns-clause-made : goal.returns-clause-made
returns-clause-made g c =
    let session = c.args.session.now in
    let k = c.in_ok-number.number in
    let b = c.in_ok-number.ensures.replaces c.args.settings.now session.stages c.apply.ensures.settings
    c.requires.in_force.stages in
    let former = some_at session.stages (k - 1) (omega (arith, b.low, b.high)) in
    let stages = replaced k c.in_ok-number.stage session.stages in
    let new = c.replace.new.self in
    let is = restaged_is session new k c.in_ok-number.stage former.0 former.1 c.in-Ok.ensures.replaced
    (c.in-Ok.ensures.equal former.0 former.1) (c.in-Ok.ensures.other former.0 former.1) in
    change_made (in_force c.args.frame.now c.args.settings.now session) c.args.change.now stages new
    (subst (λ (s : Settings). planned c.args.frame.now s ≡ Ok stages) c.apply.ensures.settings b.all)
    (subst (λ k. restaged session k stages ≡ new) c.in_ok-number.ensures.number is)
    ∙ ap (λ (s : Settings). record { bytes = done; state = in_force c.args.frame.now s new })
    (sym c.apply.ensures.settings)

pub returns-clause-in_force : goal.returns-clause-in_force
returns-clause-in_force g c =
    let b = c.in_ok-number.ensures.replaces c.args.settings.now c.args.session.now.stages c.apply.ensures.settings
    c.requires.in_force.stages in
    record {
      frame = c.requires.in_force.frame;
      settings = c.apply.ensures.in_range c.requires.in_force.settings c.requires.in_range;
      stages = b.all ∙ ap (λ (s : Session DevStage). Ok s.stages) (sym c.in-Ok.ensures.replaced);
    }

pub returns-clause-few : goal.returns-clause-few
returns-clause-few g c =
    let b = c.in_ok-number.ensures.replaces c.args.settings.now c.args.session.now.stages c.apply.ensures.settings
    c.requires.in_force.stages in
    let former = some_at c.args.session.now.stages (c.in_ok-number.number - 1) (omega (arith, b.low, b.high)) in
    one_change c.args.session.now.stamps c.replace.new.self.stamps c.in_ok-number.number _
    (c.in-Ok.ensures.equal former.0 former.1) (c.in-Ok.ensures.other former.0 former.1)

pub returns-in_err-number-clause-fault : goal.returns-in_err-number-clause-fault
returns-in_err-number-clause-fault g c =
    let p = err_from_is_err_and c.from_residual.result c.from_residual.ensures.1 in
    let fault = c.in_err-number.field-0.0 in
    rw (p.1, p.2)
    (λ other.
    change_refused (in_force c.args.frame.now c.args.settings.now c.args.session.now) c.args.change.now fault
    (subst (λ (s : Settings). planned c.args.frame.now s ≡ Err fault) c.apply.ensures.settings
    (c.in_err-number.ensures.refuses other c.args.settings.now c.args.session.now.stages c.apply.ensures.settings
    c.requires.in_force.stages)))
