-- Steps that may be refused, one after the other, with any kind of fault: this project's own. They stand in this crate
-- since each crate whose refusals are written as text uses it.
use Rattle.std.specs.Prelude.{◌≡◌, ◌≢◌, Option, None, Some, Result, Ok, Err}

-- what the next step makes of the value, or the first refusal
abbrev pub and_then : {A B F : Type 0} → Result A F → (A → Result B F) → Result B F
and_then (Ok value) next = next value
and_then (Err fault) next = Err fault

-- the value, or the fault if there is one
abbrev pub ok_unless : {A F : Type 0} → Option F → A → Result A F
ok_unless None value = Ok value
ok_unless (Some fault) value = Err fault

-- what a call answers that may run out of memory: its definition's answer, or the fault that says so
abbrev pub AnswersUnless : {A F : Type 0} → (memory : F) → Result A F → Result A F → Type 0
AnswersUnless memory (Ok value) want = want ≡ Ok value
AnswersUnless memory (Err fault) want = fault ≢ memory → want ≡ Err fault
