-- What answering a line promises, from what writing and making bands promise.
use Rattle.std.proofs.Common.{◌≡◌, ℕ, zero, suc, ◌+◌, ◌-◌, ◌≤◌, Bool, true, false, not, inl, inr, ◌⊎◌, List, [], ◌∷◌}
use Rattle.std.proofs.Common.{length, take, Some, slice_get, slice_set, Result, Ok, Err, IfErr, OnOk, refl, sym, ◌∙◌}
use Rattle.std.proofs.Common.{ap, subst, drop, arith}
use Rattle.std.specs.Prelude.{⊤}
use Rattle.std.proofs.lemmas.Option.{none-some}
use Rattle.plane_view.specs.Plane.{Plane}
use Rattle.plane_view.specs.declared.Rect.{Rect}
use Rattle.stage_deps.specs.Stamping.{Stamped, changed}
use Rattle.region_session.specs.Sessions.{Opened as Session}
use Rattle.dev_settings.specs.declared.command.Command.TheVariants.{Region, Set}
use Rattle.dev_settings.specs.declared.format.Format.{Format}
use Rattle.dev_settings.specs.declared.settings.Change.{Change}
use Rattle.dev_settings.specs.Settings.{changed as with_change}
use Rattle.dev_stages.specs.Changes.{number_of, replaced}
use Rattle.dev_stages.specs.Plans.{planned}
use Rattle.dev_stages.specs.contracts.stage.DevStagePartialEq.TheImpl.{ghosts}
use Rattle.dev_stages.specs.declared.fault.PlanFault.{PlanFault}
use Rattle.dev_stages.specs.declared.stage.DevStage.{DevStage}
use Rattle.std.specs.Io.{StartsWith}
use Rattle.std.proofs.lemmas.List.{take-append-drop}
use Rattle.std.proofs.Transfers.{starts_with_of_append}
use Rattle.developer.specs.declared.fault.AnswerFault.{AnswerFault}
use Rattle.developer.specs.declared.fault.AnswerFault.TheVariants as faults
use Rattle.developer.specs.Answered.{Appended, AreMade, IsCutAt, LeftAfter, MadeUpTo, cause_of}
use Rattle.developer.specs.Answers.{Answer}
use Rattle.developer.specs.Replies.{bands_in, command_answer, command_bands, developed, done, no_stages, part_of}
use Rattle.developer.specs.Replies.{region_answer, region_reply, replied, set_answer, set_by}
use Rattle.developer.specs.Sessions.{InForce, after_bands, is_another, restaged, stamped_if}
use Rattle.developer.specs.Answered.{ByCause}
use Rattle.developer.specs.inner.Reading.{Sends}
use Rattle.developer.specs.inner.Writes.{Writes, fault_by, fault_for}
use Rattle.developer.specs.declared.writing.Cause.{Cause}
use Rattle.developer.specs.declared.writing.Cause.TheVariants.{Memory, Write}
use Rattle.developer.specs.declared.writing.Stop.{Stop}
use Rattle.developer.specs.inner.Developed.{StagesStay}
use Rattle.developer.proofs.Bandwise.{made_stay, none_made, up_to_stays}

-- bytes begin with their first ones
start_taken : (n : ℕ) (bytes : List ℕ) → StartsWith bytes (take n bytes)
start_taken n bytes =
    starts_with_of_append bytes (take n bytes) (drop n bytes) (sym (take-append-drop n bytes))

-- as many bytes as were written before a stop
cut_for : (written : ℕ) (cause : Cause) (bytes : List ℕ) → written ≤ length bytes
    → IsCutAt (fault_for written cause) (take written bytes) bytes
cut_for written Write bytes within = (refl, within)
cut_for written Memory bytes within = start_taken written bytes

-- the fault of a stop has its cause
pub cause_is : (written : ℕ) (cause : Cause) → cause_of (fault_for written cause) ≡ cause
cause_is written Write = refl
cause_is written Memory = refl

module _ {S : Type 0} (stands_for : S → List ℕ → Type 0) (faults : S → ℕ) (old new : S) (bytes : List ℕ) where
  -- a prefix of an answer was written
  pub appended_err : (stop : Stop) → Writes {T = ℕ} stands_for faults old new bytes (λ k. k) (Err stop)
      → Appended {T = ⊤} stands_for faults old new bytes (Err (fault_by stop))
  appended_err stop w = record {
    whole = tt;
    prefix = (take stop.written bytes, w.prefix, cut_for stop.written stop.cause bytes w.within);
    calm = tt;
    counts = w.counts;
    cause = subst (λ (cause : Cause). ByCause cause (faults old) (faults new)) (sym (cause_is stop.written stop.cause))
        w.cause;
  }

-- what was written before a fault is a prefix
prefix_is : (fault : AnswerFault) (written answer : List ℕ) → IsCutAt fault written answer → StartsWith answer written
prefix_is (faults.Write fault) written answer (is, within) =
    subst (StartsWith answer) (sym is)
    (start_taken fault.written answer)
prefix_is faults.Memory written answer prefix = prefix

module _ {S : Type 0} (stands_for : S → List ℕ → Type 0) (faults : S → ℕ) (old new : S) (answer : List ℕ) where
  -- the same without how much was written
  pub sends_ok : Appended {T = ⊤} stands_for faults old new answer (Ok tt)
      → Sends {T = ⊤} stands_for faults old new answer (Ok tt)
  sends_ok a = record { whole = a.whole; prefix = tt; calm = a.calm; counts = a.counts; cause = tt }

  pub sends_err : (fault : AnswerFault) → Appended {T = ⊤} stands_for faults old new answer (Err fault)
      → Sends {T = ⊤} stands_for faults old new answer (Err (cause_of fault))
  sends_err fault a = record {
    whole = tt;
    prefix = (a.prefix.0, a.prefix.1, prefix_is fault a.prefix.0 answer a.prefix.2);
    calm = tt;
    counts = a.counts;
    cause = a.cause;
  }

-- what follows on either side
pub on_ok : {T E : Type 0} (r : Result T E) (A B : Type 0) → (A → B) → OnOk r A → OnOk r B
on_ok (Ok value) A B f a = f a
on_ok (Err fault) A B f a = tt

pub if_err : {T E : Type 0} (r : Result T E) (A B : E → Type 0) → ((fault : E) → A fault → B fault) → IfErr r A
    → IfErr r B
if_err (Ok value) A B f a = tt
if_err (Err fault) A B f a = f fault a

pub if_err_any : {T E : Type 0} (r : Result T E) → IfErr r (λ fault. ⊤)
if_err_any (Ok value) = tt
if_err_any (Err fault) = tt

-- the stages stay over a region, whether it is written whole or cut short
pub region_stays : (r : Result ℕ Stop) (old new : Session DevStage) (bands : List Rect) (before after : ℕ)
    → OnOk r (AreMade old new bands before after) → IfErr r (λ stop. MadeUpTo stop.cause old new bands before after)
    → StagesStay old new
region_stays (Ok value) old new bands before after made left = made_stay old new bands before after made
region_stays (Err stop) old new bands before after made left = up_to_stays stop.cause old new bands before after left

-- the answer to a change
pub set_command : (now : InForce) (change : Change) → command_answer now (Ok (Set change)) ≡ set_answer now change
unfolding command_answer
set_command now change = refl

-- what is in force is as before, or as after the answer
pub left_either : (cause : Cause) (old new : InForce) (answer : Answer InForce) (work : ℕ) → new ≡ old
    ⊎ new ≡ answer.state → LeftAfter cause old answer [] new work work
left_either cause old new answer work (inl is) =
    inl (
      is ∙ ap (λ (s : Session DevStage). record old { session = s }) (sym (ap (λ (n : InForce). n.session) is)),
      subst (λ (s : Session DevStage). MadeUpTo cause old.session s [] work work)
          (sym (ap (λ (n : InForce). n.session) is)) (none_made cause old.session [] work),
    )
left_either cause old new answer work (inr is) = inr (is, refl, refl)

-- the answer to a region, over the plane that the stages in force make
module _ (now : InForce) (format : Format) (x y w h : ℕ) (P : Plane) (same : P ≡ developed now) where
  pub region_bytes : region_reply P format (part_of P x y w h) ≡ (command_answer now (Ok (Region x y w h format))).bytes
  unfolding command_answer region_answer
  region_bytes = ap (λ (Q : Plane). region_reply Q format (part_of Q x y w h)) same

  pub region_bands : bands_in now.session.side (part_of P x y w h) ≡ command_bands now (Ok (Region x y w h format))
  region_bands = ap (λ (Q : Plane). bands_in now.session.side (part_of Q x y w h)) same

  pub region_state : record now { session = after_bands now.session (bands_in now.session.side (part_of P x y w h)) }
      ≡ (command_answer now (Ok (Region x y w h format))).state
  unfolding command_answer region_answer
  region_state = ap (λ (Q : Plane). record now {
    session = after_bands now.session
        (bands_in now.session.side (part_of Q x y w h));
  }) same

-- a stage that was put in the place of another
set_there : (stages : List DevStage) (i : ℕ) (stage former : DevStage) → slice_get stages i ≡ Some former
    → slice_get (slice_set stages i stage) i ≡ Some stage
set_there [] i stage former at = absurd (none-some former at)
set_there (first ∷ stages) zero stage former at = refl
set_there (first ∷ stages) (suc i) stage former at = set_there stages i stage former at

-- the stamps by whether the stage is another one
stamps_are : (same : Bool) (k : ℕ) (old new : Stamped) → (same ≡ true → new ≡ old)
    → (same ≡ false → new ≡ changed k old) → stamped_if (not same) k old ≡ new
stamps_are true k old new equal other = sym (equal refl)
stamps_are false k old new equal other = sym (other refl)

-- a session whose stage was replaced
pub restaged_is : (old new : Session DevStage) (k : ℕ) (stage former : DevStage)
    → slice_get old.stages (k - 1) ≡ Some former
    → new ≡ record old { stages = replaced k stage old.stages; stamps = new.stamps }
    → (ghosts.eq former stage ≡ true → new.stamps ≡ old.stamps)
    → (ghosts.eq former stage ≡ false → new.stamps ≡ changed k old.stamps)
    → restaged old k (replaced k stage old.stages) ≡ new
restaged_is old new k stage former at is equal other =
    let there : slice_get (replaced k stage old.stages) (k - 1) ≡ Some stage =
    set_there old.stages (k - 1) stage former at in
    let another : is_another (slice_get old.stages (k - 1)) (slice_get (replaced k stage old.stages) (k - 1))
    ≡ not (ghosts.eq former stage) = rw (at, there) refl in
    let stamps : stamped_if (is_another (slice_get old.stages (k - 1))
    (slice_get (replaced k stage old.stages) (k - 1))) k old.stamps ≡ new.stamps =
    ap (λ (b : Bool). stamped_if b k old.stamps) another ∙ stamps_are (ghosts.eq former stage) k old.stamps new.stamps
    equal other in
    ap (λ (s : Stamped). record old { stages = replaced k stage old.stages; stamps = s }) stamps ∙ sym is

-- the answer to a change, by the stages under the settings that have it
pub change_made : (now : InForce) (change : Change) (stages : List DevStage) (session : Session DevStage)
    → planned now.frame (with_change change now.settings) ≡ Ok stages
    → restaged now.session (number_of now.frame change) stages ≡ session
    → set_answer now change ≡ record {
      bytes = done;
      state = record now {
        settings = with_change change now.settings;
        session = session;
      };
    }
unfolding set_answer
change_made now change stages session are is =
    ap (set_by now (number_of now.frame change) (with_change change now.settings)) are
    ∙ ap (λ (s : Session DevStage). record {
      bytes = done;
      state = record now { settings = with_change change now.settings; session = s };
    }) is

pub change_refused : (now : InForce) (change : Change) (fault : PlanFault)
    → planned now.frame (with_change change now.settings) ≡ Err fault
    → set_answer now change ≡ replied now (no_stages fault)
unfolding set_answer
change_refused now change fault are = ap (set_by now (number_of now.frame change) (with_change change now.settings)) are

-- a replaced stage is at most one change
pub one_change : (old new : Stamped) (k : ℕ) (same : Bool) → (same ≡ true → new ≡ old)
    → (same ≡ false → new ≡ changed k old) → new.changes ≤ old.changes + 1
one_change old new k true equal other = omega (arith, ap (λ (s : Stamped). s.changes) (equal refl))
one_change old new k false equal other = omega (arith, ap (λ (s : Stamped). s.changes) (other refl))
