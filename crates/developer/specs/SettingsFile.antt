-- The settings file of a run: its settings under an accepted frame, or its first refusal, and the line of that. All of
-- it is this project's own.
use Rattle.std.specs.Prelude.{ℕ, ◌==◌, ◌&&◌, ◌||◌, Bool, List, ◌++◌, Result, Ok, Err, codes, length, nat_le, nat_lt}
use Rattle.std.specs.Prelude.{if◌then◌else◌}
use Rattle.std.specs.Char.{is_ascii_alphanumeric}
use Rattle.std.specs.List.{list_all}
use Rattle.dng_tags.specs.declared.record.Frame.{Frame}
use Rattle.dev_settings.specs.File.{Refusal, no_document, settings_of, unknown_key, wrong_value}
use Rattle.dev_settings.specs.declared.settings.Settings.{Settings}
use Rattle.dev_stages.specs.Plans.{planned}
use Rattle.dev_stages.specs.declared.fault.PlanFault.{PlanFault}
use Rattle.dev_stages.specs.declared.fault.PlanFault.TheVariants as fault
use Rattle.dev_stages.specs.declared.stage.DevStage.{DevStage}

-- why it is refused: it is too long or no document, a key isn't known or has a wrong value, the frame hasn't the
-- matrix, or its levels aren't in order under it
pub data Refused : Type 0 where
  too_long : Refused
  not_toml : Refused
  key : List ℕ → Refused
  value : List ℕ → Refused
  no_matrix : Refused
  no_levels : Refused

-- settings under which the frame has stages. No definition answers "out of memory"
abbrev pub if_planned : Settings → Result (List DevStage) PlanFault → Result Settings Refused
if_planned settings (Ok stages) = Ok settings
if_planned settings (Err fault.Matrix) = Err no_matrix
if_planned settings (Err fault.Levels) = Err no_levels
if_planned settings (Err fault.Memory) = Err no_levels

-- the settings of a file under a frame, or the first refusal
abbrev pub under_frame : Frame → Result Settings Refusal → Result Settings Refused
under_frame frame (Ok settings) = if_planned settings (planned frame settings)
under_frame frame (Err no_document) = Err not_toml
under_frame frame (Err (unknown_key name)) = Err (key name)
under_frame frame (Err (wrong_value name)) = Err (value name)

-- the same, by the file's bytes, of which there are at most 65,536
unfoldable pub file_settings : Frame → List ℕ → Result Settings Refused
file_settings frame bytes =
    if nat_lt 65536 (length bytes) then Err too_long else under_frame frame (settings_of bytes)

-- a letter or a digit of ASCII, `_` (95) or `-` (45)
abbrev pub is_letter : ℕ → Bool
is_letter byte = is_ascii_alphanumeric byte || byte == 95 || byte == 45

-- the name has 1 to 64 such letters, and nothing else
abbrev pub is_plain : List ℕ → Bool
is_plain name = nat_lt 0 (length name) && nat_le (length name) 64 && list_all is_letter name

-- a key's name as it is printed
abbrev pub shown_name : List ℕ → List ℕ
shown_name name = if is_plain name then name else codes "?"

-- what is refused
abbrev pub refusal_text : Refused → List ℕ
refusal_text too_long = codes "TooLong"
refusal_text not_toml = codes "NotToml"
refusal_text (key name) = codes "Key " ++ shown_name name
refusal_text (value name) = codes "Value " ++ shown_name name
refusal_text no_matrix = codes "Matrix"
refusal_text no_levels = codes "Levels"

-- what is written where the settings are refused
unfoldable pub settings_line : Refused → List ℕ
settings_line refused = codes "settings " ++ refusal_text refused ++ codes "\n"
