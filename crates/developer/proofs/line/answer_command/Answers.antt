use Rattle.std.proofs.Common.{◌≡◌, ℕ, ◌+◌, Ok, ◌⊎◌, inl, inr, List, refl, sym, ◌∙◌, ap, subst, arith}
use Rattle.plane_view.specs.Plane.{Plane}
use Rattle.stage_chain.specs.Chains.{whole_of}
use Rattle.dev_stages.specs.Members.{apply_of}
use Rattle.plane_view.specs.declared.Rect.{Rect}
use Rattle.region_session.specs.Sessions.{Opened as Session}
use Rattle.stage_deps.specs.Stamping.{Stamped}
use Rattle.dev_settings.specs.declared.settings.Change.{Change}
use Rattle.dev_settings.specs.declared.command.Command.TheVariants.{Region, Set}
use Rattle.dev_stages.specs.declared.stage.DevStage.{DevStage}
use Rattle.developer.specs.Answered.{AreMade, LeftAfter, MadeUpTo}
use Rattle.developer.specs.Answers.{Answer}
use Rattle.developer.specs.Replies.{bands_in, command_answer, command_bands, part_of, set_answer}
use Rattle.developer.specs.Sessions.{InForce, cells_of_bands, in_force}
use Rattle.developer.proofs.Bandwise.{stays_in_force}
use Rattle.developer.proofs.Written.{writes_same}
use Rattle.developer.proofs.Development.{in_force_develops, in_force_planes}
use Rattle.developer.proofs.Replying.{if_err, left_either, on_ok, region_bands, region_bytes, region_state}
use Rattle.developer.proofs.Replying.{region_stays, set_command}
use Rattle.developer.proofs.line.answer_command.Goals as goal

pub answer_region-requires : goal.answer_region-requires
answer_region-requires g c =
    record {
      planes = in_force_planes (in_force c.args.frame.now c.args.settings.now c.args.session.now)
          c.requires.in_force;
    }

pub returns-in-Ok-Region-clause-writes : goal.returns-in-Ok-Region-clause-writes
returns-in-Ok-Region-clause-writes g c =
    let now = in_force c.args.frame.now c.args.settings.now c.args.session.now in
    let r = c.in-Ok-Region in
    let P : Plane = whole_of apply_of c.args.session.now.stages c.args.session.now.plane in
    let same = in_force_develops now c.requires.in_force in
    let is = r.is ∙ ap Ok r.field-0-is in
    writes_same g.O.Sink.stands_for g.O.Sink.faults c.args.out.now c.answer_region.new.out _ _ (λ (n : ℕ). n)
    c.answer_region.result
    (region_bytes now r.format r.x r.y r.w r.h P same ∙ ap (λ command. (command_answer now command).bytes) (sym is))
    c.answer_region.ensures.writes

pub returns-in-Ok-Region-clause-state : goal.returns-in-Ok-Region-clause-state
returns-in-Ok-Region-clause-state g c =
    let now = in_force c.args.frame.now c.args.settings.now c.args.session.now in
    let r = c.in-Ok-Region in
    let P : Plane = whole_of apply_of c.args.session.now.stages c.args.session.now.plane in
    let same = in_force_develops now c.requires.in_force in
    let is = r.is ∙ ap Ok r.field-0-is in
    let bands : List Rect = bands_in c.args.session.now.side (part_of P r.x r.y r.w r.h) in
    let told = region_bands now r.format r.x r.y r.w r.h P same ∙ ap (command_bands now) (sym is) in
    on_ok c.answer_region.result (AreMade c.args.session.now c.answer_region.new.session bands c.args.work.now
    c.answer_region.new.work)
    (in_force c.args.frame.now c.args.settings.now c.answer_region.new.session
    ≡ (command_answer now c.args.command).state)
    (λ made. ap (λ (s : Session DevStage). in_force c.args.frame.now c.args.settings.now s) made.session
    ∙ (region_state now r.format r.x r.y r.w r.h P same ∙ ap (λ command. (command_answer now command).state) (sym is)))
    c.answer_region.ensures.made

pub returns-in-Ok-Region-clause-work : goal.returns-in-Ok-Region-clause-work
returns-in-Ok-Region-clause-work g c =
    let now = in_force c.args.frame.now c.args.settings.now c.args.session.now in
    let r = c.in-Ok-Region in
    let P : Plane = whole_of apply_of c.args.session.now.stages c.args.session.now.plane in
    let same = in_force_develops now c.requires.in_force in
    let is = r.is ∙ ap Ok r.field-0-is in
    let bands : List Rect = bands_in c.args.session.now.side (part_of P r.x r.y r.w r.h) in
    let told = region_bands now r.format r.x r.y r.w r.h P same ∙ ap (command_bands now) (sym is) in
    on_ok c.answer_region.result (AreMade c.args.session.now c.answer_region.new.session bands c.args.work.now
    c.answer_region.new.work)
    (c.answer_region.new.work ≡ c.args.work.now + cells_of_bands c.args.session.now (command_bands now c.args.command))
    (λ made. made.work ∙ ap (λ (xs : List Rect). c.args.work.now + cells_of_bands c.args.session.now xs) told)
    c.answer_region.ensures.made

pub returns-in-Ok-Region-clause-left : goal.returns-in-Ok-Region-clause-left
returns-in-Ok-Region-clause-left g c =
    let now = in_force c.args.frame.now c.args.settings.now c.args.session.now in
    let r = c.in-Ok-Region in
    let P : Plane = whole_of apply_of c.args.session.now.stages c.args.session.now.plane in
    let same = in_force_develops now c.requires.in_force in
    let is = r.is ∙ ap Ok r.field-0-is in
    let bands : List Rect = bands_in c.args.session.now.side (part_of P r.x r.y r.w r.h) in
    let told = region_bands now r.format r.x r.y r.w r.h P same ∙ ap (command_bands now) (sym is) in
    let new = c.answer_region.new.session in
    let work : ℕ = c.answer_region.new.work in
    if_err c.answer_region.result (λ stop. MadeUpTo stop.cause c.args.session.now new bands c.args.work.now work)
    (λ stop. LeftAfter stop.cause now (command_answer now c.args.command) (command_bands now c.args.command)
    (in_force c.args.frame.now c.args.settings.now new) c.args.work.now work)
    (λ stop m. inl (
      refl,
      subst (λ (xs : List Rect). MadeUpTo stop.cause c.args.session.now new xs c.args.work.now work)
          told m,
    ))
    c.answer_region.ensures.left

pub returns-in-Ok-Region-clause-in_force : goal.returns-in-Ok-Region-clause-in_force
returns-in-Ok-Region-clause-in_force g c =
    stays_in_force (in_force c.args.frame.now c.args.settings.now c.args.session.now) c.answer_region.new.session
    c.requires.in_force
    (region_stays c.answer_region.result c.args.session.now c.answer_region.new.session _ _ _
    c.answer_region.ensures.made c.answer_region.ensures.left)

pub returns-in-Ok-Region-clause-few : goal.returns-in-Ok-Region-clause-few
returns-in-Ok-Region-clause-few g c =
    let stays = region_stays c.answer_region.result c.args.session.now c.answer_region.new.session _ _ _
    c.answer_region.ensures.made c.answer_region.ensures.left in
    omega (arith, ap (λ (s : Stamped). s.changes) stays.stamps)

-- an alternative by the answer to the command
pub either : (now new : InForce) (change : Change) → new ≡ now ⊎ new ≡ (set_answer now change).state → new ≡ now
    ⊎ new ≡ (command_answer now (Ok (Set change))).state
either now new change (inl is) = inl is
either now new change (inr is) = inr (is ∙ ap (λ (a : Answer InForce). a.state) (sym (set_command now change)))

pub returns-in-Ok-Set-clause-left : goal.returns-in-Ok-Set-clause-left
returns-in-Ok-Set-clause-left g c =
    let now = in_force c.args.frame.now c.args.settings.now c.args.session.now in
    let new = in_force c.args.frame.now c.answer_set.new.settings c.answer_set.new.session in
    let change = c.in-Ok-Set.change in
    let is = c.in-Ok-Set.is ∙ ap Ok c.in-Ok-Set.field-0-is in
    let work : ℕ = c.args.work.now in
    if_err c.answer_set.result (λ stop. new ≡ now ⊎ new ≡ (set_answer now change).state)
    (λ stop. LeftAfter stop.cause now (command_answer now c.args.command) (command_bands now c.args.command) new work
    work)
    (λ stop e. subst (λ command. LeftAfter stop.cause now (command_answer now command) (command_bands now command) new
    work work) (sym is)
    (left_either stop.cause now new (command_answer now (Ok (Set change))) work (either now new change e)))
    c.answer_set.ensures.left
