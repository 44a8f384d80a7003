use Rattle.std.proofs.Common.{refl}
use Rattle.std.proofs.lemmas.Result.{err_from_is_err_and}
use Rattle.developer.proofs.SettingsFiles.{file_fault, plan_fault, plan_made}
use Rattle.developer.proofs.settings.settings_for.Goals as goal

pub returns-in_err-settings : goal.returns-in_err-settings
returns-in_err-settings c =
    let p = err_from_is_err_and c.from_residual.result c.from_residual.ensures.1 in
    rw (p.1, p.2) (file_fault c.args.frame.now c.args.bytes.now c.in_err-settings.field-0.0 c.requires.short
    c.in_err-settings.ensures.answer)

pub returns-in_err-stages : goal.returns-in_err-stages
returns-in_err-stages c =
    let p = err_from_is_err_and c.from_residual-in_err-stages.result c.from_residual-in_err-stages.ensures.1 in
    rw (p.1, p.2)
    (plan_fault c.args.frame.now c.args.bytes.now c.in_ok-settings.settings c.requires.short
    c.in_ok-settings.ensures.answer c.in_err-stages.field-0.0 c.in_err-stages.ensures.fault)

pub returns : goal.returns
returns c =
    plan_made c.args.frame.now c.args.bytes.now c.in_ok-settings.settings c.requires.short
    c.in_ok-settings.ensures.answer
    (record { settings = c.in_ok-settings.settings; stages = c.in_ok-stages.stages }) refl
    (record {
      in_range = c.in_ok-settings.ensures.in_range;
      stages = c.in_ok-stages.ensures.stages;
      chain = c.in_ok-stages.ensures.chain;
    })
