-- What the words, the files and the script call for. It says nothing of reading in pieces or of buffers. This is this
-- project's own.
use Rattle.std.specs.Prelude.{ℕ, ◌^◌, nat_lt, if◌then◌else◌, List, [], ◌∷◌, length, take, Option, None, Some, Ok, Err}
use Rattle.region_session.specs.Sessions.{Opened as Session}
use Rattle.dev_settings.specs.Lines.{all_lines, lines_of}
use Rattle.dev_stages.specs.declared.stage.DevStage.{DevStage}
use Rattle.developer.specs.Answers.{Answer, answers}
use Rattle.developer.specs.Opening.{Opening, Refusal, opened}
use Rattle.developer.specs.Replies.{answer_of}
use Rattle.developer.specs.Sessions.{InForce}
use Rattle.developer.specs.declared.status.Status.{Status}
use Rattle.developer.specs.declared.status.Status.TheVariants.{Done, ScriptTooLong}

-- what is to be written, the status, and the session after the lines that are answered, where a frame is opened
pub record Transcript : Type 0 where
  pub bytes : List ℕ
  pub status : Status
  pub session : Option (Session DevStage)

-- the most bytes that a script may have
abbrev pub max_script : ℕ
max_script = 2 ^ 24

-- the answers to lines, each under what is in force after those before it
abbrev pub answers_to : InForce → List (List ℕ) → Answer InForce
answers_to now lines = answers answer_of now lines

-- the transcript of lines that were answered
abbrev pub by_answers : Answer InForce → Status → Transcript
by_answers answer status = record { bytes = answer.bytes; status = status; session = Some answer.state.session }

-- the transcript of a refusal
abbrev pub by_refusal : Refusal → Transcript
by_refusal refusal = record { bytes = refusal.bytes; status = refusal.status; session = None }

-- the transcript over an opened frame: the answers to the lines of the script; where it is too long, to the complete
-- lines of its prefix
unfoldable pub by_script : InForce → List ℕ → Transcript
by_script now script =
    if nat_lt max_script (length script)
    then by_answers (answers_to now (lines_of (take max_script script)).complete) ScriptTooLong
    else by_answers (answers_to now (all_lines (lines_of script))) Done

-- the transcript over an opened frame, where the script is told
abbrev pub by_told_script : InForce → Option (List ℕ) → Option Transcript
by_told_script now None = None
by_told_script now (Some script) = Some (by_script now script)

-- the transcript over what the words and the files call for
abbrev pub by_opening : Option Opening → Option (List ℕ) → Option Transcript
by_opening None script = None
by_opening (Some (Ok now)) script = by_told_script now script
by_opening (Some (Err refusal)) script = Some (by_refusal refusal)

-- What the words call for, over what is told of the files by name and of the script. None where it hangs on what isn't
-- told.
abbrev pub transcript : List (List ℕ) → (List ℕ → Option (List ℕ)) → Option (List ℕ) → Option Transcript
transcript words told script = by_opening (opened words told) script

-- the session after lines, where there was one
abbrev pub session_after : InForce → List (List ℕ) → Option (Session DevStage)
session_after now [] = None
session_after now (line ∷ lines) = Some (answers_to now (line ∷ lines)).state.session
