-- Definitions for the contracts between functions of this crate: what becomes of the tally where an opened frame's
-- session is closed into it, or isn't. This is this project's own.
use Rattle.std.specs.Prelude.{◌≡◌, Result, Ok, Err}
use Rattle.region_session.specs.Sessions.{Opened as Session, samples_kept}
use Rattle.region_session.specs.declared.tally.Tally.{Tally}
use Rattle.dev_stages.specs.declared.stage.DevStage.{DevStage}
use Rattle.developer.specs.Run.{RisesBy}
use Rattle.developer.specs.declared.status.Ending.{Ending}
use Rattle.developer.specs.declared.status.Ending.TheVariants as endings

-- a session that fetched, ran and keeps nothing
abbrev pub IsIdle : Session DevStage → Type 0
IsIdle s = (s.fetched ≡ 0) × (s.ran ≡ 0) × (samples_kept s ≡ 0)

-- and under which nothing was changed
abbrev pub IsFresh : Session DevStage → Type 0
IsFresh s = (s.stamps.changes ≡ 0) × IsIdle s

-- The tally once the reading of a script ended so: it rises by the session's numbers where the session is closed, and
-- else it stays. It stays by a session that did nothing, too.
abbrev pub IsClosed : {T : Type 0} → Result T Ending → Session DevStage → (before after : Tally) → Type 0
IsClosed (Ok value) s before after = RisesBy s before after
IsClosed (Err endings.ScriptTooLong) s before after = RisesBy s before after
IsClosed (Err endings.ReadFault) s before after = RisesBy s before after × (IsIdle s → after ≡ before)
IsClosed (Err ending) s before after = after ≡ before
