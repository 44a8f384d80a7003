-- Equal stages are alike: this project's own.
use Rattle.std.proofs.Common.{◌≡◌, true, List, ℤ, refl, rules}
use Rattle.plane_view.specs.declared.Rect.{Rect}
use Rattle.plane_view.specs.declared.Shape.{Shape}
use Rattle.stage_core.specs.Stages.{AreAlike}
use Rattle.stage_core.proofs.Formulas.{alike_same}
use Rattle.colour_matrix.specs.Balances.{Balancing, balanced}
use Rattle.std.specs.Cmp.{signed_Decides}
use Rattle.std.proofs.lemmas.Slice.Eq.{slice_eq-Decides}
use Rattle.colour_matrix.specs.Matrices.{matrixed}
use Rattle.colour_matrix.specs.contracts.balance.BalancePartialEq.TheImpl as balance
use Rattle.colour_matrix.specs.contracts.matrix.MatrixPartialEq.TheImpl as matrix

-- equal stages of balance are alike: they take, make and need the same
pub same_balances : (s t : Balancing) → balance.ghosts.eq s t ≡ true
    → AreAlike (λ (s : Balancing) (input : Shape). input.planes ≡ 3) (λ (s : Balancing) (input : Shape). input)
    (λ (s : Balancing) (input : Shape) (rect : Rect). rect) (λ (s : Balancing) P. balanced s P) s t
same_balances s t equal =
    let gains : s.gains ≡ t.gains = search rules in
    let exposure : s.exposure ≡ t.exposure = search rules in
    let same : s ≡ t = λ i. record { gains = gains i; exposure = exposure i } in
    alike_same _ _ _ _ s t same

-- equal stages of a matrix are alike: they take, make and need the same
pub same_matrices : (s t : List ℤ) → matrix.ghosts.eq s t ≡ true
    → AreAlike (λ (s : List ℤ) (input : Shape). input.planes ≡ 3) (λ (s : List ℤ) (input : Shape). input)
    (λ (s : List ℤ) (input : Shape) (rect : Rect). rect) (λ (s : List ℤ) P. matrixed s P) s t
same_matrices s t equal =
    alike_same _ _ _ _ s t ((slice_eq-Decides signed_Decides s t (matrix.ghosts.eq s t) refl).0 equal)
