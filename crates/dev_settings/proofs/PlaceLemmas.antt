-- The place that `position` gives.
use Rattle.std.proofs.Common.{◌≡◌, ℕ, ◌<◌, ◌≤◌, Bool, cond, not, ltb, List, length, Some, None, arith}
use Rattle.std.specs.List.{position, position_or_len}
use Rattle.std.specs.Option.{unwrap_or}
use Rattle.std.proofs.lemmas.Bool.Decides.{nat_tests}
use Rattle.std.proofs.lemmas.List.Sums.{prefix_len-le-length}

some_place : (m l n : ℕ) → cond (ltb m l) (Some m) None ≡ Some n → (m ≡ n) × (n < l)
some_place m l n e = grind (arith, nat_tests)

no_place : (m l : ℕ) → cond (ltb m l) (Some m) None ≡ None → l ≤ m
no_place m l e = grind (arith, nat_tests)

place_or_len : (m l : ℕ) → m ≤ l → unwrap_or (cond (ltb m l) (Some m) None) l ≡ m
place_or_len m l h = grind (arith, nat_tests)

pub position_some : {X : Type 0} (p : X → Bool) (xs : List X) (n : ℕ) → position p xs ≡ Some n
    → (position_or_len p xs ≡ n) × (n < length xs)
position_some p xs n e = some_place _ _ n e

pub position_none : {X : Type 0} (p : X → Bool) (xs : List X) → position p xs ≡ None → length xs ≤ position_or_len p xs
position_none p xs e = no_place _ _ e

pub unwrap_or-position : {X : Type 0} (p : X → Bool) (xs : List X) → unwrap_or (position p xs) (length xs)
    ≡ position_or_len p xs
unwrap_or-position p xs = place_or_len _ _ (prefix_len-le-length (λ x. not (p x)) xs)
