-- What the words and the files call for, before the script. This is this project's own.
use Rattle.std.specs.Prelude.{◌≡◌, ℕ, ◌^◌, ◌⊎◌, IfSome, IsOk, nat_lt, if◌then◌else◌, List, [], length, Option, None}
use Rattle.std.specs.Prelude.{Some, Result, Ok, Err}
use Rattle.raw_io.specs.Outside.{Rises}
use Rattle.text_line.specs.Chain.{and_then}
use Rattle.dng_tags.specs.Frame.{frame_of}
use Rattle.dng_tags.specs.Raw.{raw, undecoded}
use Rattle.dng_tags.specs.declared.record.Frame.{Frame}
use Rattle.tag_rules.specs.declared.faults.FrameFault.{FrameFault}
use Rattle.tag_rules.specs.declared.faults.FrameFault.TheVariants.{TooLong}
use Rattle.stage_deps.specs.Stamping.{begun}
use Rattle.frame_segments.specs.Opened.{OpenedSegments, rects_of}
use Rattle.region_session.specs.Sessions.{Opened as Session}
use Rattle.dev_stages.specs.declared.stage.DevStage.{DevStage}
use Rattle.developer.specs.Develop.{stages_under}
use Rattle.developer.specs.Sessions.{InForce, in_force}
use Rattle.developer.specs.Words.{Options, options}
use Rattle.developer.specs.Refusals.{refusal_line, usage_line}
use Rattle.developer.specs.SettingsFile.{Refused, file_settings, settings_line}
use Rattle.dev_settings.specs.Settings.{standard_settings}
use Rattle.dev_settings.specs.declared.settings.Settings.{Settings}
use Rattle.developer.specs.declared.status.Status.{Status}
use Rattle.developer.specs.declared.status.Status.TheVariants as statuses

-- the line of a refusal, and the status
pub record Refusal : Type 0 where
  pub bytes : List ℕ
  pub status : Status

-- an accepted frame: the bytes of its file, and its record
pub record FrameFile : Type 0 where
  pub bytes : List ℕ
  pub frame : Frame

-- a session of stages over segments: no cell was run, none is held, and nothing was changed
abbrev pub begun_over : Options → OpenedSegments → List DevStage → Session DevStage
begun_over chosen segments stages = record {
  plane = segments.plane;
  cells = segments.cells;
  fetches = segments.fetches;
  stages = stages;
  side = chosen.cell;
  budget = chosen.budget;
  fetched = 0;
  ran = 0;
  stamps = begun (length stages);
  keys = [];
}

-- the segments of a frame, of which none was fetched: the raw plane
abbrev pub unfetched : FrameFile → OpenedSegments
unfetched file = record { plane = raw file.bytes file.frame; cells = rects_of file.frame.segments; fetches = 0 }

-- what is in force before the first line
abbrev pub started : Options → FrameFile → Settings → InForce
started chosen file settings =
    in_force file.frame settings (begun_over chosen (unfetched file) (stages_under file.frame settings))

-- what is in force at first, or what is written of a refusal and its status
abbrev pub Opening : Type 0
Opening = Result InForce Refusal

-- what words that aren't accepted call for
abbrev pub refused_words : Opening
refused_words = Err (record { bytes = usage_line; status = statuses.Usage })

-- what a frame that is refused calls for
abbrev pub refused_frame : FrameFault → Refusal
refused_frame fault = record { bytes = refusal_line fault; status = statuses.Frame }

-- what settings that are refused call for
abbrev pub refused_settings : Refused → Refusal
refused_settings refused = record { bytes = settings_line refused; status = statuses.Settings }

-- a frame each of whose segments can be decoded, or the refusal of the first that can't be
abbrev pub if_decoded : Frame → Option FrameFault → Result Frame FrameFault
if_decoded frame None = Ok frame
if_decoded frame (Some fault) = Err fault

-- the frame of a file, or its first refusal
unfoldable pub file_frame : List ℕ → Result Frame FrameFault
file_frame bytes =
    if nat_lt (2 ^ 28) (length bytes)
    then Err TooLong
    else and_then (frame_of bytes) (λ frame. if_decoded frame (undecoded bytes frame))

-- the frame's file, by its bytes and by the frame that they are, or its refusal
abbrev pub frame_as : List ℕ → Result Frame FrameFault → Result FrameFile Refusal
frame_as bytes (Ok frame) = Ok (record { bytes = bytes; frame = frame })
frame_as bytes (Err fault) = Err (refused_frame fault)

-- the same, where its bytes are told
abbrev pub told_frame : Option (List ℕ) → Option (Result FrameFile Refusal)
told_frame None = None
told_frame (Some bytes) = Some (frame_as bytes (file_frame bytes))

-- what an accepted frame calls for under these settings, or under their refusal
abbrev pub opened_by : Options → FrameFile → Result Settings Refused → Opening
opened_by chosen file (Ok settings) = Ok (started chosen file settings)
opened_by chosen file (Err refused) = Err (refused_settings refused)

-- what an accepted frame calls for under a settings file, where its bytes are told
abbrev pub opened_under : Options → FrameFile → Option (List ℕ) → Option Opening
opened_under chosen file None = None
opened_under chosen file (Some bytes) = Some (opened_by chosen file (file_settings file.frame bytes))

-- what an accepted frame calls for under the settings file of this name; without a name the settings are the standard
-- ones
abbrev pub opened_named : Options → FrameFile → Option (List ℕ) → (List ℕ → Option (List ℕ)) → Option Opening
opened_named chosen file None told = Some (opened_by chosen file (Ok standard_settings))
opened_named chosen file (Some name) told = opened_under chosen file (told name)

-- what the frame's file calls for, and then the settings file
abbrev pub opened_next : Options → Option (Result FrameFile Refusal) → (List ℕ → Option (List ℕ)) → Option Opening
opened_next chosen None told = None
opened_next chosen (Some (Err refusal)) told = Some (Err refusal)
opened_next chosen (Some (Ok file)) told = opened_named chosen file chosen.settings told

-- what the options call for; None stands for words that aren't accepted
abbrev pub opened_for : Option Options → (List ℕ → Option (List ℕ)) → Option Opening
opened_for None told = Some refused_words
opened_for (Some chosen) told = opened_next chosen (told_frame (told chosen.frame)) told

-- What the words call for, by what is told of the files by name. None where it hangs on what isn't told.
abbrev pub opened : List (List ℕ) → (List ℕ → Option (List ℕ)) → Option Opening
opened words told = opened_for (options words) told

-- A read of a file failed: the count of the frame's name rose, or that of the settings file, which is read only of an
-- accepted frame.
abbrev pub FileUnread : (told : List ℕ → Option (List ℕ)) → (before after : List ℕ → ℕ) → Options → Type 0
FileUnread told before after chosen =
    Rises (before chosen.frame) (after chosen.frame)
    ⊎ ((name : List ℕ) × (chosen.settings ≡ Some name) × Rises (before name) (after name)
    × IfSome (told_frame (told chosen.frame)) IsOk)
