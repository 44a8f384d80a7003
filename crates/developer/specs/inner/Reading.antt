-- Definitions for the contracts between functions of this crate: what reading a script piece by piece promises. This is
-- this project's own.
use Rattle.std.specs.Prelude.{◌≡◌, ℕ, ◌+◌, ◌≤◌, ◌⊎◌, List, [], length, take, Option, Some, IfSome, Result, Ok, Err}
use Rattle.std.specs.Prelude.{IfErr, OnErr, OnOk}
use Rattle.std.specs.Io.{StartsWith}
use Rattle.std.specs.Io.KnownBytes.{Consumes}
use Rattle.raw_io.specs.Outside.{Appends, Rises}
use Rattle.dev_settings.specs.Lines.{all_lines, lines_of}
use Rattle.developer.specs.Answered.{ByCause}
use Rattle.developer.specs.Answers.{Answer}
use Rattle.developer.specs.Sessions.{InForce}
use Rattle.developer.specs.Transcript.{answers_to, max_script}
use Rattle.developer.specs.declared.status.Ending.{Ending}
use Rattle.developer.specs.declared.status.Ending.TheVariants as endings
use Rattle.developer.specs.declared.writing.Cause.{Cause}

-- what is kept of a line: one byte more than a line may have shows that it is too long
abbrev pub kept_of : List ℕ → List ℕ
kept_of line = take 4097 line

-- On Ok all of these bytes of answers were appended, and after a fault a prefix of them was. The sink's count of faults
-- rose exactly where a write failed.
pub record Sends {S T : Type 0} (stands_for : S → List ℕ → Type 0) (faults : S → ℕ) (old new : S) (answers : List ℕ)
    (result : Result T Cause) : Type 0 where
  pub whole : OnOk result (Appends stands_for old new answers)
  pub prefix : OnErr result ((written : List ℕ) × Appends stands_for old new written × StartsWith answers written)
  pub calm : OnOk result (faults new ≡ faults old)
  pub counts : faults old ≤ faults new
  pub cause : IfErr result (λ cause. ByCause cause (faults old) (faults new))

-- lines were answered one after the other, or the answers cut short
pub record IsAnswered {S T : Type 0} (stands_for : S → List ℕ → Type 0) (faults : S → ℕ) (first now : S)
    (start : InForce) (lines : List (List ℕ)) (after : InForce) (result : Result T Cause) : Type 0 where
  pub sends : Sends stands_for faults first now (answers_to start lines).bytes result
  pub state : OnOk result (after ≡ (answers_to start lines).state)

-- a script was taken to its end, with no more bytes than it may have
pub record IsWhole {C : Type 0} (left : C → Option (List ℕ)) (before after : C) (taken : List ℕ) : Type 0 where
  pub short : length taken ≤ max_script
  pub end : IfSome (left before) (λ _. left after ≡ Some [])

-- the answers to the complete lines that were taken, of the longest prefix that a script may have
abbrev pub complete_answers : InForce → List ℕ → Answer InForce
complete_answers start taken = answers_to start (lines_of (take max_script taken)).complete

-- the answers to all lines of a script that was taken whole
abbrev pub whole_answers : InForce → List ℕ → Answer InForce
whole_answers start taken = answers_to start (all_lines (lines_of taken))

-- a prefix of the answers was written
abbrev pub IsPrefixOfAnswers : {C : Type 0} (left : C → Option (List ℕ)) (before after : C) → InForce
    → (taken written : List ℕ)
    → Type 0
IsPrefixOfAnswers left before after start taken written =
    StartsWith (complete_answers start taken).bytes written
    ⊎ (IsWhole left before after taken × StartsWith (whole_answers start taken).bytes written)

-- how reading ended: what was taken, what was written, and what is in force then
abbrev pub Outcome : {C S : Type 0} (left : C → Option (List ℕ)) (script_faults : C → ℕ) (sink_faults : S → ℕ)
    (start : InForce) (before after : C) (first now : S) (state : InForce) (taken written : List ℕ)
    → {T : Type 0} → Result T Ending → Type 0
Outcome left script_faults sink_faults start before after first now state taken written (Ok value) =
    IsWhole left before after taken × (written ≡ (whole_answers start taken).bytes)
    × (state ≡ (whole_answers start taken).state)
Outcome left script_faults sink_faults start before after first now state taken written (Err endings.ScriptTooLong) =
    (length taken ≡ max_script + 1) × (written ≡ (complete_answers start taken).bytes)
    × (state ≡ (complete_answers start taken).state)
Outcome left script_faults sink_faults start before after first now state taken written (Err endings.ReadFault) =
    (length taken ≤ max_script) × Rises (script_faults before) (script_faults after)
    × (written ≡ (complete_answers start taken).bytes) × (state ≡ (complete_answers start taken).state)
Outcome left script_faults sink_faults start before after first now state taken written (Err endings.WriteFault) =
    Rises (sink_faults first) (sink_faults now) × IsPrefixOfAnswers left before after start taken written
Outcome left script_faults sink_faults start before after first now state taken written (Err endings.Memory) =
    IsPrefixOfAnswers left before after start taken written
Outcome left script_faults sink_faults start before after first now state taken written (Err ending) = ⊥

-- a script was read and its lines answered, to its end or until something failed
pub record Reads {C S T : Type 0} (left : C → Option (List ℕ)) (script_faults : C → ℕ)
    (stands_for : S → List ℕ → Type 0) (sink_faults : S → ℕ) (start : InForce) (before after : C) (first now : S)
    (state : InForce) (result : Result T Ending) : Type 0 where
  pub taken : List ℕ
  pub written : List ℕ
  pub takes : Consumes (left before) (left after) taken
  pub appends : Appends stands_for first now written
  pub script : script_faults before ≤ script_faults after
  pub sink : sink_faults first ≤ sink_faults now
  pub outcome : Outcome left script_faults sink_faults start before after first now state taken written result
