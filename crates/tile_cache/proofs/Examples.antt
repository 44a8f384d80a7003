-- The definitions at work, on lists of numbers that are their own sizes.
use Rattle.std.proofs.Common.{◌≡◌, ℕ, List, [], ◌∷◌, refl}
use Rattle.tile_cache.specs.Kept.{dropped_until, put_in}

-- two slots and a budget of 10
abbrev put : ℕ → List ℕ → List ℕ
put = put_in (λ n. n) 2 10

fills : put 4 (6 ∷ []) ≡ 4 ∷ 6 ∷ []
unfolding dropped_until
fills = refl

drops_for_the_slots : put 0 (4 ∷ 6 ∷ []) ≡ 0 ∷ 4 ∷ []
unfolding dropped_until
drops_for_the_slots = refl

drops_for_the_budget : put 7 (4 ∷ 6 ∷ []) ≡ 7 ∷ []
unfolding dropped_until
drops_for_the_budget = refl

takes_the_whole_budget : put 10 (4 ∷ 6 ∷ []) ≡ 10 ∷ []
unfolding dropped_until
takes_the_whole_budget = refl

above_the_budget : put 11 (4 ∷ 6 ∷ []) ≡ 4 ∷ 6 ∷ []
unfolding dropped_until
above_the_budget = refl

no_budget : put_in (λ n. n) 2 0 1 [] ≡ []
unfolding dropped_until
no_budget = refl
