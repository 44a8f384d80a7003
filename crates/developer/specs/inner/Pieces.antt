-- Definitions for the contracts between functions of this crate: bytes of which some were written and others are held
-- in a piece. This is this project's own.
use Rattle.std.specs.Prelude.{◌≡◌, ℕ, List, ◌++◌, Ok}
use Rattle.developer.specs.inner.Writes.{Writes}

-- of all these bytes, a prefix of `written` bytes was written, and the piece holds the others
pub record InPieces {S : Type 0} (stands_for : S → List ℕ → Type 0) (faults : S → ℕ) (first now : S)
    (all piece : List ℕ) (written : ℕ) : Type 0 where
  pub sent : List ℕ
  pub writes : Writes {T = ℕ} stands_for faults first now sent (λ n. n) (Ok written)
  pub rest : sent ++ piece ≡ all
