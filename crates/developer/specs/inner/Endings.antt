-- Definitions for the contracts between functions of this crate: how a run that ended early shows its status. This is
-- this project's own.
use Rattle.std.specs.Prelude.{Result, Ok, Err}
use Rattle.developer.specs.declared.status.Ending.{Ending}
use Rattle.developer.specs.declared.status.Ending.TheVariants as endings
use Rattle.developer.specs.declared.status.Status.{Status}
use Rattle.developer.specs.declared.status.Status.TheVariants as statuses
use Rattle.developer.specs.declared.writing.Cause.{Cause}
use Rattle.developer.specs.declared.writing.Cause.TheVariants as causes

-- how a run ends whose answer is cut short
abbrev pub ending_of : Cause → Ending
ending_of causes.Write = endings.WriteFault
ending_of causes.Memory = endings.Memory

-- the status of a run that ended early
abbrev pub status_of : Ending → Status
status_of endings.Usage = statuses.Usage
status_of endings.Frame = statuses.Frame
status_of endings.Settings = statuses.Settings
status_of endings.ReadFault = statuses.ReadFault
status_of endings.WriteFault = statuses.WriteFault
status_of endings.Memory = statuses.Memory
status_of endings.ScriptTooLong = statuses.ScriptTooLong

-- the status of a run that ended early or with its script
abbrev pub status_after : {T : Type 0} → Result T Ending → Status
status_after (Ok value) = statuses.Done
status_after (Err ending) = status_of ending
