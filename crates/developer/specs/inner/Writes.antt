-- Definitions for the contracts between functions of this crate: what writing some bytes promises. This is this
-- project's own.
use Rattle.std.specs.Prelude.{◌≡◌, ℕ, ◌≤◌, List, length, take, Result, Ok, Err, IfErr, IfOk, OnOk}
use Rattle.raw_io.specs.Outside.{Appends}
use Rattle.developer.specs.Answered.{ByCause}
use Rattle.raw_io.specs.declared.whole.WriteFault.{WriteFault}
use Rattle.developer.specs.declared.fault.AnswerFault.{AnswerFault}
use Rattle.developer.specs.declared.fault.AnswerFault.TheVariants as faults
use Rattle.developer.specs.declared.writing.Cause.{Cause}
use Rattle.developer.specs.declared.writing.Cause.TheVariants.{Memory, Write}
use Rattle.developer.specs.declared.writing.Stop.{Stop}

-- a failed write, as a stop
abbrev pub by_write : WriteFault → Stop
by_write fault = record { written = fault.written; cause = Write }

-- memory ran out before the first byte
abbrev pub no_memory : Stop
no_memory = record { written = 0; cause = Memory }

-- the fault of an answer that is cut short after so many bytes
abbrev pub fault_for : ℕ → Cause → AnswerFault
fault_for written Write = faults.Write (record { written = written })
fault_for written Memory = faults.Memory

-- a stop, as the fault of the answer that it cuts short
abbrev pub fault_by : Stop → AnswerFault
fault_by stop = fault_for stop.written stop.cause

-- what may fail by writes alone, as what may stop
abbrev pub stopped : {T : Type 0} → Result T WriteFault → Result T Stop
stopped (Ok value) = Ok value
stopped (Err fault) = Err (by_write fault)

-- On Ok all of these bytes were appended, and the value has their number. After a stop exactly the first `written` of
-- them were. The sink's count of faults rose exactly where a write failed.
pub record Writes {S T : Type 0} (stands_for : S → List ℕ → Type 0) (faults : S → ℕ) (old new : S) (bytes : List ℕ)
    (length_of : T → ℕ) (result : Result T Stop) : Type 0 where
  pub whole : OnOk result (Appends stands_for old new bytes)
  pub number : IfOk result (λ value. length_of value ≡ length bytes)
  pub prefix : IfErr result (λ stop. Appends stands_for old new (take stop.written bytes))
  pub within : IfErr result (λ stop. stop.written ≤ length bytes)
  pub calm : OnOk result (faults new ≡ faults old)
  pub counts : faults old ≤ faults new
  pub cause : IfErr result (λ stop. ByCause stop.cause (faults old) (faults new))
