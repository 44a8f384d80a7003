use Rattle.std.proofs.Common.{◌≡◌, IfSome, Ok, sym, ◌∙◌, ap, ap₂, subst}
use Rattle.std.proofs.lemmas.Result.{err_from_is_err_and}
use Rattle.frame_segments.specs.Opened.{OpenedSegments}
use Rattle.developer.specs.Develop.{stages_under}
use Rattle.developer.specs.Opening.{FrameFile, begun_over, opened_named}
use Rattle.developer.specs.Sessions.{InForce, in_force}
use Rattle.developer.specs.inner.Shown.{option_view}
use Rattle.developer.proofs.Openings.{settings_opened, settings_stop}
use Rattle.developer.proofs.opening.open_frame.Goals as goal

pub new-requires-clause-read : goal.new-requires-clause-read
new-requires-clause-read g c =
    (c.args.bytes.now, c.requires.frame, ap (λ (o : OpenedSegments). o.plane) c.in_ok-segments.ensures.opened)

pub returns-in_err-planned-clause-opens : goal.returns-in_err-planned-clause-opens
returns-in_err-planned-clause-opens g c =
    let p = err_from_is_err_and c.from_residual-in_err-planned.result c.from_residual-in_err-planned.ensures.1 in
    rw (p.1, p.2) (settings_stop _ _ _ (option_view c.args.options.now) _ c.in_err-planned.field-0.0
    c.in_ok-segments.ensures.decoded c.in_err-planned.ensures.plans)

pub returns-clause-opens : goal.returns-clause-opens
returns-clause-opens g c =
    let file : FrameFile = record { bytes = c.args.bytes.now; frame = c.args.frame } in
    let chosen = option_view c.args.options.now in
    let settings = c.in_ok-planned.planned.settings in
    let is = c.in_ok-new.ensures
    ∙ ap (λ (o : OpenedSegments). in_force c.args.frame settings
    (begun_over chosen o (stages_under c.args.frame settings))) c.in_ok-segments.ensures.opened in (
      c.in_ok-segments.ensures.decoded,
      subst (λ (r : InForce). IfSome (opened_named chosen file chosen.settings (g.F.Files.told c.args.files.now))
          (λ o. o ≡ Ok r)) (sym is)
          (settings_opened (g.F.Files.told c.args.files.now) _ _ chosen file c.in_ok-planned.planned
          c.in_ok-planned.ensures.plans),
    )
