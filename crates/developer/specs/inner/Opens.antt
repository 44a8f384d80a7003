-- Definitions for the contracts between functions of this crate: what opening a frame promises, before the script. This
-- is this project's own.
use Rattle.std.specs.Prelude.{◌≡◌, ℕ, ◌≤◌, ◌⊎◌, List, Option, None, Some, IfSome, Result, Ok, Err, ⊤}
use Rattle.std.specs.Io.{StartsWith}
use Rattle.raw_io.specs.Outside.{Appends, Rises}
use Rattle.raw_io.specs.declared.whole.ReadFault.{ReadFault}
use Rattle.raw_io.specs.declared.whole.ReadFault.TheVariants as reads
use Rattle.tag_rules.specs.declared.faults.FrameFault.{FrameFault}
use Rattle.tag_rules.specs.declared.faults.FrameFault.TheVariants as frames
use Rattle.dng_tags.specs.Raw.{undecoded}
use Rattle.developer.specs.Opening.{FileUnread, FrameFile, opened_for, opened_named, refused_frame, refused_settings}
use Rattle.developer.specs.inner.Planning.{seen}
use Rattle.developer.specs.Sessions.{InForce}
use Rattle.developer.specs.Words.{Options}
use Rattle.developer.specs.declared.settings.SettingsStop.{SettingsStop}
use Rattle.developer.specs.declared.settings.SettingsStop.TheVariants as stops
use Rattle.developer.specs.declared.opening.OpenFault.{OpenFault}
use Rattle.developer.specs.declared.opening.OpenFault.TheVariants as openings
use Rattle.developer.specs.declared.status.Ending.{Ending}
use Rattle.developer.specs.declared.status.Ending.TheVariants as endings

-- a failed read of the frame's file, as a reason for which it isn't opened
abbrev pub open_fault : ReadFault → OpenFault
open_fault reads.TooLong = openings.Frame frames.TooLong
open_fault reads.Failed = openings.Unread
open_fault reads.Memory = openings.Memory

-- a frame's fault, as such a reason
abbrev pub refused_or_memory : FrameFault → OpenFault
refused_or_memory frames.Memory = openings.Memory
refused_or_memory fault = openings.Frame fault

-- what gives no settings, as such a reason
abbrev pub stopped : SettingsStop → OpenFault
stopped (stops.Refused refusal) = openings.Settings refusal
stopped stops.Unread = openings.Unread
stopped stops.Memory = openings.Memory

-- reading the files that the words ask for, as far as they are told, gives what they call for; a read failed only where
-- its count rose
abbrev pub OpensFiles : (told : List ℕ → Option (List ℕ)) → (before after : List ℕ → ℕ) → Options
    → Result InForce OpenFault → Type 0
OpensFiles told before after chosen (Ok now) = IfSome (opened_for (Some chosen) told) (λ o. o ≡ Ok now)
OpensFiles told before after chosen (Err (openings.Frame fault)) =
    IfSome (opened_for (Some chosen) told) (λ o. o ≡ Err (refused_frame fault))
OpensFiles told before after chosen (Err (openings.Settings refusal)) =
    IfSome (opened_for (Some chosen) told) (λ o. o ≡ Err (refused_settings (seen refusal)))
OpensFiles told before after chosen (Err openings.Unread) = FileUnread told before after chosen
OpensFiles told before after chosen (Err openings.Memory) = ⊤

-- of a frame whose record was read
abbrev pub Opens : (told : List ℕ → Option (List ℕ)) → (before after : List ℕ → ℕ) → Options → FrameFile
    → Result InForce OpenFault → Type 0
Opens told before after chosen file (Ok now) =
    (undecoded file.bytes file.frame ≡ None)
    × IfSome (opened_named chosen file chosen.settings told) (λ o. o ≡ Ok now)
Opens told before after chosen file (Err (openings.Frame fault)) = undecoded file.bytes file.frame ≡ Some fault
Opens told before after chosen file (Err (openings.Settings refusal)) =
    (undecoded file.bytes file.frame ≡ None)
    × IfSome (opened_named chosen file chosen.settings told) (λ o. o ≡ Err (refused_settings (seen refusal)))
Opens told before after chosen file (Err openings.Unread) =
    (undecoded file.bytes file.frame ≡ None)
    × ((other : List ℕ) × (chosen.settings ≡ Some other) × Rises (before other) (after other))
Opens told before after chosen file (Err openings.Memory) = ⊤

-- a line was written whole and the run ends so, or writing it failed after a prefix
pub record Refuses {S : Type 0} (stands_for : S → List ℕ → Type 0) (faults : S → ℕ) (old new : S) (line : List ℕ)
    (ending result : Ending) : Type 0 where
  pub written : List ℕ
  pub appended : Appends stands_for old new written
  pub prefix : StartsWith line written
  pub counts : faults old ≤ faults new
  pub outcome : ((result ≡ ending) × (written ≡ line))
      ⊎ ((result ≡ endings.WriteFault) × Rises (faults old) (faults new))
