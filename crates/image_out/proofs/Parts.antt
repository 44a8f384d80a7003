-- Bytes that are appended in parts.
use Rattle.std.proofs.Common.{◌≡◌, ℕ, List, ◌++◌, ◌∙◌, ap, append_assoc}

-- one part and then another are appended together
pub onto : (start middle end a b : List ℕ) → middle ≡ start ++ a → end ≡ middle ++ b → end ≡ start ++ (a ++ b)
onto start middle end a b first second = second ∙ (ap (λ (bytes : List ℕ). bytes ++ b) first ∙ append_assoc start a b)
