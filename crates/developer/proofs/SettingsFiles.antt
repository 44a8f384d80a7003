-- What a settings file that was read calls for.
use Rattle.std.proofs.Common.{◌≡◌, ◌≢◌, ℕ, ◌<◌, ◌≤◌, List, length, Option, Result, Ok, Err, refl, sym, ◌∙◌, ap, subst}
use Rattle.std.specs.Prelude.{IfSome, IsErrOf}
use Rattle.std.proofs.lemmas.Bool.{le-ltb, lt-ltb}
use Rattle.raw_io.specs.Outside.{Rises}
use Rattle.raw_io.specs.declared.whole.ReadFault.{ReadFault}
use Rattle.raw_io.specs.declared.whole.ReadFault.TheVariants as reads
use Rattle.dng_tags.specs.declared.record.Frame.{Frame}
use Rattle.dev_settings.specs.Answers.{IsFaultOf}
use Rattle.dev_settings.specs.File.{settings_of}
use Rattle.dev_settings.specs.declared.file.SettingsFault.{SettingsFault}
use Rattle.dev_settings.specs.declared.file.SettingsFault.TheVariants as files
use Rattle.dev_settings.specs.declared.settings.Settings.{Settings}
use Rattle.dev_stages.specs.Plans.{planned}
use Rattle.dev_stages.specs.declared.fault.PlanFault.{PlanFault}
use Rattle.dev_stages.specs.declared.fault.PlanFault.TheVariants as plans
use Rattle.developer.specs.inner.Planning.{IsPlanned, Plans, ReadsSettings, stop_of_file, stop_of_plan, stop_of_read}
use Rattle.developer.specs.SettingsFile.{Refused, file_settings, if_planned, too_long, under_frame}
use Rattle.developer.specs.declared.settings.Planned.{Planned}
use Rattle.developer.specs.declared.settings.SettingsStop.{SettingsStop}
use Rattle.developer.specs.declared.settings.SettingsStop.TheVariants as stops
use Rattle.std.proofs.lemmas.Option.{IfSome_then}

-- a file that is too long
too_long_file : (frame : Frame) (bytes : List ℕ) → 65536 < length bytes → file_settings frame bytes ≡ Err too_long
unfolding file_settings
too_long_file frame bytes long = rw (lt-ltb 65536 (length bytes) long) refl

-- a file that isn't
short_file : (frame : Frame) (bytes : List ℕ) → length bytes ≤ 65536
    → file_settings frame bytes ≡ under_frame frame (settings_of bytes)
unfolding file_settings
short_file frame bytes short = rw (le-ltb 65536 (length bytes) short) refl

-- a file that is refused by itself
pub file_fault : (frame : Frame) (bytes : List ℕ) (fault : SettingsFault) → length bytes ≤ 65536
    → IsFaultOf (settings_of bytes) fault → Plans frame (file_settings frame bytes) (Err (stop_of_file fault))
file_fault frame bytes files.NotToml short is = short_file frame bytes short ∙ ap (under_frame frame) is
file_fault frame bytes (files.Key name) short is = short_file frame bytes short ∙ ap (under_frame frame) is
file_fault frame bytes (files.Value name) short is = short_file frame bytes short ∙ ap (under_frame frame) is
file_fault frame bytes files.Memory short is = tt

module _ (frame : Frame) (bytes : List ℕ) (settings : Settings) (short : length bytes ≤ 65536)
    (reads-as : settings_of bytes ≡ Ok settings) where
  -- a file with settings, by the stages under them
  settings_file : file_settings frame bytes ≡ if_planned settings (planned frame settings)
  settings_file = short_file frame bytes short ∙ ap (under_frame frame) reads-as

  -- a file whose settings give the frame no stages
  pub plan_fault : (fault : PlanFault) → (fault ≢ plans.Memory → planned frame settings ≡ Err fault)
      → Plans frame (file_settings frame bytes) (Err (stop_of_plan fault))
  plan_fault plans.Matrix is = settings_file ∙ ap (if_planned settings) (is (λ e. cc))
  plan_fault plans.Levels is = settings_file ∙ ap (if_planned settings) (is (λ e. cc))
  plan_fault plans.Memory is = tt

  -- a file whose settings give it stages
  pub plan_made : (answer : Planned) → answer.settings ≡ settings → IsPlanned frame answer
      → Plans frame (file_settings frame bytes) (Ok answer)
  plan_made answer same is = (
    settings_file ∙ ap (λ (s : Settings). if_planned s (planned frame s)) (sym same)
        ∙ ap (if_planned answer.settings) is.stages,
    is,
  )

module _ (frame : Frame) (contents : Option (List ℕ)) (before after : ℕ) where
  -- a failed read of a file
  pub settings_unread : {T : Type 0} (fault : ReadFault)
      → (IsErrOf {T = T} (Err fault) reads.TooLong → IfSome contents (λ bytes. 65536 < length bytes))
      → (IsErrOf {T = T} (Err fault) reads.Failed → Rises before after)
      → ReadsSettings frame contents before after (Err (stop_of_read fault))
  settings_unread reads.TooLong long failed =
      IfSome_then contents {P = λ bytes. 65536 < length bytes} {Q = λ bytes. file_settings frame bytes ≡ Err too_long}
      (long refl) (λ bytes h. too_long_file frame bytes h)
  settings_unread reads.Failed long failed = failed refl
  settings_unread reads.Memory long failed = tt

  -- what was read, where it is told
  read_as : (bytes : List ℕ) (wanted : Result Settings Refused) → IfSome contents (λ told. bytes ≡ told)
      → file_settings frame bytes ≡ wanted → IfSome contents (λ told. file_settings frame told ≡ wanted)
  read_as bytes wanted told is =
      IfSome_then contents {P = λ (all : List ℕ). bytes ≡ all} {Q = λ all. file_settings frame all ≡ wanted} told
      (λ all e. subst (λ (b : List ℕ). file_settings frame b ≡ wanted) e is)

  -- a file that was read
  pub settings_read : (bytes : List ℕ) (result : Result Planned SettingsStop) → IfSome contents (λ told. bytes ≡ told)
      → Plans frame (file_settings frame bytes) result → ReadsSettings frame contents before after result
  settings_read bytes (Ok answer) told is = (read_as bytes (Ok answer.settings) told is.0, is.1)
  settings_read bytes (Err (stops.Refused refusal)) told is = read_as bytes _ told is
  settings_read bytes (Err stops.Unread) told is = absurd is
  settings_read bytes (Err stops.Memory) told is = tt
