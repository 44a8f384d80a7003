-- Definitions for the contracts between functions of this crate: how an answer of the code shows what the definitions
-- say of a settings file. "Out of memory" says nothing.
use Rattle.std.specs.Prelude.{◌≡◌, ⊤, ℕ, List, Option, None, Some, IfSome, Result, Ok, Err, string_bytes}
use Rattle.raw_io.specs.Outside.{Rises}
use Rattle.raw_io.specs.declared.whole.ReadFault.{ReadFault}
use Rattle.raw_io.specs.declared.whole.ReadFault.TheVariants as reads
use Rattle.dng_tags.specs.declared.record.Frame.{Frame}
use Rattle.dev_settings.specs.Ranges.{SettingsInRange}
use Rattle.dev_settings.specs.Settings.{standard_settings}
use Rattle.dev_settings.specs.declared.file.SettingsFault.{SettingsFault}
use Rattle.dev_settings.specs.declared.file.SettingsFault.TheVariants as files
use Rattle.dev_settings.specs.declared.settings.Settings.{Settings}
use Rattle.stage_chain.specs.Chains.{TakeInTurn}
use Rattle.dev_stages.specs.Members.{shaped_of, takes_of}
use Rattle.dev_stages.specs.Plans.{planned}
use Rattle.dev_stages.specs.declared.fault.PlanFault.{PlanFault}
use Rattle.dev_stages.specs.declared.fault.PlanFault.TheVariants as plans
use Rattle.developer.specs.SettingsFile.{Refused, file_settings, key, no_levels, no_matrix, not_toml, too_long, value}
use Rattle.developer.specs.declared.settings.Planned.{Planned}
use Rattle.developer.specs.declared.settings.SettingsRefusal.{SettingsRefusal}
use Rattle.developer.specs.declared.settings.SettingsRefusal.TheVariants as refusals
use Rattle.developer.specs.declared.settings.SettingsStop.{SettingsStop}
use Rattle.developer.specs.declared.settings.SettingsStop.TheVariants as stops

-- the refusal that the code's shows
abbrev pub seen : SettingsRefusal → Refused
seen refusals.TooLong = too_long
seen refusals.NotToml = not_toml
seen (refusals.Key name) = key (string_bytes name)
seen (refusals.Value name) = value (string_bytes name)
seen refusals.Matrix = no_matrix
seen refusals.Levels = no_levels

-- a failed read of a settings file, as the reason why there are no stages
abbrev pub stop_of_read : ReadFault → SettingsStop
stop_of_read reads.TooLong = stops.Refused refusals.TooLong
stop_of_read reads.Failed = stops.Unread
stop_of_read reads.Memory = stops.Memory

-- a fault of a settings file, as the reason why there are no stages
abbrev pub stop_of_file : SettingsFault → SettingsStop
stop_of_file files.NotToml = stops.Refused refusals.NotToml
stop_of_file (files.Key name) = stops.Refused (refusals.Key name)
stop_of_file (files.Value name) = stops.Refused (refusals.Value name)
stop_of_file files.Memory = stops.Memory

-- a fault of the plan, as the reason why there are no stages
abbrev pub stop_of_plan : PlanFault → SettingsStop
stop_of_plan plans.Matrix = stops.Refused refusals.Matrix
stop_of_plan plans.Levels = stops.Refused refusals.Levels
stop_of_plan plans.Memory = stops.Memory

-- settings in their ranges, and the frame's stages under them, which fit it one after the other
pub record IsPlanned (frame : Frame) (answer : Planned) : Type 0 where
  pub in_range : SettingsInRange answer.settings
  pub stages : planned frame answer.settings ≡ Ok answer.stages.items
  pub chain : TakeInTurn takes_of shaped_of answer.stages.items frame.shape

-- the settings are these with their stages, or this refusal is theirs, or memory ran out
abbrev pub Plans : Frame → Result Settings Refused → Result Planned SettingsStop → Type 0
Plans frame wanted (Ok answer) = (wanted ≡ Ok answer.settings) × IsPlanned frame answer
Plans frame wanted (Err (stops.Refused refusal)) = wanted ≡ Err (seen refusal)
Plans frame wanted (Err stops.Unread) = ⊥
Plans frame wanted (Err stops.Memory) = ⊤

-- the same of a file whose contents may be told; a read failed only where its count rose
abbrev pub ReadsSettings : Frame → Option (List ℕ) → (before after : ℕ) → Result Planned SettingsStop → Type 0
ReadsSettings frame contents before after (Ok answer) =
    IfSome contents (λ bytes. file_settings frame bytes ≡ Ok answer.settings) × IsPlanned frame answer
ReadsSettings frame contents before after (Err (stops.Refused refusal)) =
    IfSome contents (λ bytes. file_settings frame bytes ≡ Err (seen refusal))
ReadsSettings frame contents before after (Err stops.Unread) = Rises before after
ReadsSettings frame contents before after (Err stops.Memory) = ⊤

-- the same by the name of a settings file; without one the settings are the standard ones
abbrev pub PlansUnder : Frame → (told : List ℕ → Option (List ℕ)) → (before after : List ℕ → ℕ) → Option (List ℕ)
    → Result Planned SettingsStop → Type 0
PlansUnder frame told before after None result = Plans frame (Ok standard_settings) result
PlansUnder frame told before after (Some name) result = ReadsSettings frame (told name) (before name) (after name)
    result
