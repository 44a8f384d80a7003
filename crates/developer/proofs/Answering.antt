-- The lines of a script, answered one after the other in any state.
use Rattle.std.proofs.Common.{◌≡◌, ℕ, List, [], ◌∷◌, ◌++◌, refl, sym, ◌∙◌, ap, append_assoc}
use Rattle.std.specs.Io.{StartsWith}
use Rattle.std.proofs.Transfers.{starts_with_of_append, starts_with_trans}
use Rattle.developer.specs.Answers.{Answer, answers, then_answer}

-- the answers to lines in two pieces
pub answers-append : {State : Type 0} (answer : State → List ℕ → Answer State) (state : State)
    (prefix lines : List (List ℕ))
    → answers answer state (prefix ++ lines) ≡ then_answer (answers answer state prefix)
    (answers answer (answers answer state prefix).state lines)
answers-append answer state [] lines = refl
answers-append answer state (line ∷ prefix) lines =
    ap (then_answer (answer state line)) (answers-append answer (answer state line).state prefix lines)
    ∙ ap (λ (bytes : List ℕ). record {
      bytes = bytes;
      state = (answers answer (answers answer (answer state line).state prefix).state lines).state;
    })
    (sym (append_assoc (answer state line).bytes (answers answer (answer state line).state prefix).bytes
    (answers answer (answers answer (answer state line).state prefix).state lines).bytes))

module _ {State : Type 0} (answer : State → List ℕ → Answer State) (start : State) where
  -- the same, where the state between them is known
  pub answers_then : (prefix lines : List (List ℕ)) (state : State) → state ≡ (answers answer start prefix).state
      → answers answer start (prefix ++ lines) ≡ then_answer (answers answer start prefix) (answers answer state lines)
  answers_then prefix lines state is =
      answers-append answer start prefix lines
      ∙ ap (λ (s : State). then_answer (answers answer start prefix) (answers answer s lines)) (sym is)

  -- a prefix of the answers to the first lines is one of the answers to all
  pub answers_prefix : (prefix lines : List (List ℕ)) (written : List ℕ)
      → StartsWith (answers answer start prefix).bytes written
      → StartsWith (answers answer start (prefix ++ lines)).bytes written
  answers_prefix prefix lines written =
      starts_with_trans (answers answer start (prefix ++ lines)).bytes (answers answer start prefix).bytes written
      (starts_with_of_append (answers answer start (prefix ++ lines)).bytes (answers answer start prefix).bytes
      (answers answer (answers answer start prefix).state lines).bytes
      (ap (λ (a : Answer State). a.bytes) (answers-append answer start prefix lines)))
