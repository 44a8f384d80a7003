-- What answering a line promises, beside the answer. This is this project's own.
use Rattle.std.specs.Prelude.{◌≡◌, ℕ, ◌+◌, ◌≤◌, ◌⊎◌, List, [], ◌∷◌, ◌++◌, length, take, Result, IfErr, OnOk}
use Rattle.plane_view.specs.declared.Rect.{Rect}
use Rattle.std.specs.Io.{StartsWith}
use Rattle.raw_io.specs.Outside.{Appends, Rises}
use Rattle.region_session.specs.Sessions.{Opened as Session}
use Rattle.dev_stages.specs.declared.stage.DevStage.{DevStage}
use Rattle.developer.specs.Answers.{Answer}
use Rattle.developer.specs.Replies.{answer_of, bands_for}
use Rattle.developer.specs.Sessions.{InForce, after_bands, cells_of_bands}
use Rattle.developer.specs.declared.fault.AnswerFault.{AnswerFault}
use Rattle.developer.specs.declared.fault.AnswerFault.TheVariants.{Write, Memory}
use Rattle.developer.specs.declared.writing.Cause.{Cause}
use Rattle.developer.specs.declared.writing.Cause.TheVariants as causes

-- why a fault cut an answer short
abbrev pub cause_of : AnswerFault → Cause
cause_of (Write fault) = causes.Write
cause_of Memory = causes.Memory

-- the sink's count of faults before and after a stop: a write failed where it rose; memory ran out where it is as it
-- was
abbrev pub ByCause : Cause → (before after : ℕ) → Type 0
ByCause causes.Write before after = Rises before after
ByCause causes.Memory before after = after ≡ before

-- these bytes of an answer were written before a fault: a prefix, and where a write failed, as many as the fault tells
abbrev pub IsCutAt : AnswerFault → (written answer : List ℕ) → Type 0
IsCutAt (Write fault) written answer = (written ≡ take fault.written answer) × (fault.written ≤ length answer)
IsCutAt Memory written answer = StartsWith answer written

-- On Ok the whole answer was appended. After a fault a prefix of it was, and the sink's count of faults rose exactly
-- where a write failed.
pub record Appended {S T : Type 0} (stands_for : S → List ℕ → Type 0) (faults : S → ℕ) (old new : S) (answer : List ℕ)
    (result : Result T AnswerFault) : Type 0 where
  pub whole : OnOk result (Appends stands_for old new answer)
  pub prefix : IfErr result (λ fault. (written : List ℕ) × Appends stands_for old new written
      × IsCutAt fault written answer)
  pub calm : OnOk result (faults new ≡ faults old)
  pub counts : faults old ≤ faults new
  pub cause : IfErr result (λ fault. ByCause (cause_of fault) (faults old) (faults new))

-- memory ran out in a band: what is counted and which keys are held isn't told, and all else is as it was
abbrev pub IsRefused : Session DevStage → Session DevStage → Type 0
IsRefused old new = new ≡ record old { fetches = new.fetches; fetched = new.fetched; ran = new.ran; keys = new.keys }

-- these bands were made, one after the other, and counted
pub record AreMade (old new : Session DevStage) (bands : List Rect) (before after : ℕ) : Type 0 where
  pub session : new ≡ after_bands old bands
  pub work : after ≡ before + cells_of_bands old bands

-- the bands before this one were made, and memory ran out in it
pub record IsCut (old new : Session DevStage) (made : List Rect) (rest : List Rect) : Type 0 where
  pub band : Rect
  pub others : List Rect
  pub next : rest ≡ band ∷ others
  pub refused : IsRefused (after_bands old made) new

-- of bands the first ones were made before this cause, and of the next one not more than memory allowed
pub record MadeUpTo (cause : Cause) (old new : Session DevStage) (bands : List Rect) (before after : ℕ) : Type 0 where
  pub made : List Rect
  pub rest : List Rect
  pub all : made ++ rest ≡ bands
  pub outcome : AreMade old new made before after ⊎ ((cause ≡ causes.Memory) × IsCut old new made rest)

-- what is in force once this cause cut an answer short, whose line asks for these bands: what was before, but for the
-- bands that were made, or what is after the whole answer
abbrev pub LeftAfter : Cause → (old : InForce) → Answer InForce → List Rect → (new : InForce) → (before after : ℕ)
    → Type 0
LeftAfter cause old answer bands new before after =
    ((new ≡ record old { session = new.session }) × MadeUpTo cause old.session new.session bands before after)
    ⊎ ((new ≡ answer.state) × (bands ≡ []) × (after ≡ before))

-- the same of a line and a fault
abbrev pub LeftBy : AnswerFault → (old : InForce) → List ℕ → (new : InForce) → (before after : ℕ) → Type 0
LeftBy fault old line new before after =
    LeftAfter (cause_of fault) old (answer_of old line) (bands_for old line) new before after
