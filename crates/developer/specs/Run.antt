-- What a run promises. This is this project's own.
use Rattle.std.specs.Prelude.{◌≡◌, ℕ, ◌<◌, ◌≤◌, ◌⊎◌, List, [], length, Option, None, Some, IfOk, IfSome}
use Rattle.std.specs.Prelude.{Err, IsOk}
use Rattle.std.specs.Io.{StartsWith}
use Rattle.raw_io.specs.Outside.{Rises}
use Rattle.developer.specs.Words.{Options, options}
use Rattle.stage_core.specs.Bases.{raised}
use Rattle.region_session.specs.Sessions.{Opened as Session, fetched_of, kept_of, ran_of, samples_kept}
use Rattle.region_session.specs.declared.tally.Tally.{Tally}
use Rattle.dev_settings.specs.Lines.{lines_of}
use Rattle.dev_stages.specs.declared.stage.DevStage.{DevStage}
use Rattle.developer.specs.Opening.{FileUnread, Opening, opened}
use Rattle.developer.specs.Sessions.{InForce}
use Rattle.developer.specs.Transcript.{Transcript, answers_to, max_script, session_after, transcript}
use Rattle.developer.specs.declared.status.Status.{Status}
use Rattle.developer.specs.declared.status.Status.TheVariants.{Done, Usage, ReadFault, WriteFault, Memory}
use Rattle.developer.specs.declared.status.Status.TheVariants.{ScriptTooLong}
use Rattle.developer.specs.declared.status.Status.TheVariants as statuses

-- the outside of a run at one moment
pub record Outside : Type 0 where
  -- what is told of each file, and the count of faults of each name
  pub told : List ℕ → Option (List ℕ)
  pub file_faults : List ℕ → ℕ
  -- what is left of the script, where it is told, and its count of faults
  pub left : Option (List ℕ)
  pub script_faults : ℕ
  -- the sink's count of faults
  pub sink_faults : ℕ
  -- the tally that the session is closed into
  pub tally : Tally

-- a call of `run`: the words, the outside before and after, the bytes that the sink took, and those taken from the
-- script
pub record Call : Type 0 where
  pub words : List (List ℕ)
  pub before : Outside
  pub after : Outside
  pub written : List ℕ
  pub taken : List ℕ

-- what the words and the files call for, before the script
abbrev pub opening : Call → Option Opening
opening call = opened call.words call.before.told

-- what is called for
abbrev pub called : Call → Option Transcript
called call = transcript call.words call.before.told call.before.left

-- this status is called for, with the bytes that were written
abbrev pub IsCalled : Call → Status → Type 0
IsCalled call status = IfSome (called call) (λ e. (e.status ≡ status) × (call.written ≡ e.bytes))

-- before the script, a refusal of this status is called for, with the bytes that were written
abbrev pub IsRefused : Call → Status → Type 0
IsRefused call status = IfSome (opening call) (λ o. o ≡ Err (record { bytes = call.written; status = status }))

-- the frame is opened, as far as it is told
abbrev pub IsOpened : Call → Type 0
IsOpened call = IfSome (opening call) IsOk

-- a prefix of the bytes that are called for was written
abbrev pub IsPrefix : Call → Type 0
IsPrefix call = IfSome (called call) (λ e. StartsWith e.bytes call.written)

-- a read failed: of the files that are read before the script, or of the script, which is read only of an opened frame
abbrev pub ReadFailed : Call → Options → Type 0
ReadFailed call chosen =
    FileUnread call.before.told call.before.file_faults call.after.file_faults chosen
    ⊎ (Rises call.before.script_faults call.after.script_faults × IsOpened call)

-- the tally rose by a session's numbers
pub record RisesBy (s : Session DevStage) (before after : Tally) : Type 0 where
  pub fetched : fetched_of after ≡ raised (fetched_of before) s.fetched
  pub ran : ran_of after ≡ raised (ran_of before) s.ran
  pub kept : kept_of after ≡ raised (kept_of before) (samples_kept s)

-- the same of the session that there was; without one it stays
abbrev pub IsTallied : Option (Session DevStage) → (before after : Tally) → Type 0
IsTallied None before after = after ≡ before
IsTallied (Some s) before after = RisesBy s before after

-- exactly the complete lines that were taken of the script were answered
abbrev pub IsAnswered : Call → InForce → Type 0
IsAnswered call now = call.written ≡ (answers_to now (lines_of call.taken).complete).bytes

-- what each status promises
abbrev pub Ends : Call → Status → Type 0
Ends call Done = IsCalled call Done × IfSome call.before.left (λ _. call.after.left ≡ Some [])
Ends call Usage = (options call.words ≡ None) × IsRefused call Usage × (call.taken ≡ [])
Ends call statuses.Frame = IsRefused call statuses.Frame × (call.taken ≡ [])
Ends call statuses.Settings = IsRefused call statuses.Settings × (call.taken ≡ [])
Ends call ScriptTooLong = IsCalled call ScriptTooLong × (max_script < length call.taken)
Ends call ReadFault =
    (length call.taken ≤ max_script)
    × (call.taken ≡ [] → call.written ≡ [])
    × IfSome (opening call) (λ o. IfOk o (IsAnswered call))
    × ((chosen : Options) × (options call.words ≡ Some chosen) × ReadFailed call chosen)
Ends call WriteFault = Rises call.before.sink_faults call.after.sink_faults × IsPrefix call
Ends call Memory = IsPrefix call

-- what each status promises of the tally: it rises by the numbers of the session after the lines that were answered,
-- once, and stays where none was
abbrev pub Tallies : Call → Status → Type 0
Tallies call Done = IfSome (called call) (λ e. IsTallied e.session call.before.tally call.after.tally)
Tallies call ScriptTooLong = IfSome (called call) (λ e. IsTallied e.session call.before.tally call.after.tally)
Tallies call ReadFault =
    (call.taken ≡ [] → call.after.tally ≡ call.before.tally)
    × IfSome (opening call) (λ o. IfOk o (λ now. IsTallied (session_after now (lines_of call.taken).complete)
    call.before.tally call.after.tally))
Tallies call status = call.after.tally ≡ call.before.tally

-- no count rose
pub record NoFault (call : Call) : Type 0 where
  pub files : (name : List ℕ) → ¬ Rises (call.before.file_faults name) (call.after.file_faults name)
  pub script : ¬ Rises call.before.script_faults call.after.script_faults
  pub sink : ¬ Rises call.before.sink_faults call.after.sink_faults

-- where no count rose, the run ends as it is called for, or out of memory
abbrev pub Completes : Call → Status → Type 0
Completes call status = NoFault call → IsCalled call status ⊎ ((status ≡ Memory) × IsPrefix call)

-- what is told of the files stays, and no count falls
pub record Stays (call : Call) : Type 0 where
  pub told : (name : List ℕ) → call.after.told name ≡ call.before.told name
  pub files : (name : List ℕ) → call.before.file_faults name ≤ call.after.file_faults name
  pub script : call.before.script_faults ≤ call.after.script_faults
  pub sink : call.before.sink_faults ≤ call.after.sink_faults

-- what a run promises of its status: what that status says, that it ends for no other cause, and what stays
pub record Promises (call : Call) (status : Status) : Type 0 where
  pub ends : Ends call status
  pub tallies : Tallies call status
  pub completes : Completes call status
  pub stays : Stays call

-- the number of a status, with which the program ends
abbrev pub status_number : Status → ℕ
status_number Done = 0
status_number Usage = 1
status_number statuses.Frame = 2
status_number statuses.Settings = 3
status_number ReadFault = 4
status_number WriteFault = 5
status_number Memory = 6
status_number ScriptTooLong = 7
