-- Answering lines one after the other, over any state. This is this project's own.
use Rattle.std.specs.Prelude.{ℕ, List, [], ◌∷◌, ◌++◌}

-- what a line is answered with: the bytes, and the state after it
pub record Answer (State : Type 0) : Type 0 where
  pub bytes : List ℕ
  pub state : State

-- this answer, then that one
abbrev pub then_answer : {State : Type 0} → Answer State → Answer State → Answer State
then_answer first rest = record { bytes = first.bytes ++ rest.bytes; state = rest.state }

-- the answers to lines, one after the other: each line is answered in the state after those before it
abbrev pub answers : {State : Type 0} → (State → List ℕ → Answer State) → State → List (List ℕ) → Answer State
answers answer state [] = record { bytes = []; state = state }
answers answer state (line ∷ lines) = then_answer (answer state line) (answers answer (answer state line).state lines)
