-- Lists that were written element by element.
use Rattle.std.proofs.Common.{◌≡◌, ℕ, suc, ◌<◌, List, [], ◌∷◌, length, get_or, map, refl, arith}

-- a list with an element for each of another one
pub map_by_all : {X Y : Type 0} (f : X → Y) → (xs : List X) (ys : List Y) (d : X) (e : Y) → length ys ≡ length xs
    → ((k : ℕ) → k < length xs → get_or ys k e ≡ f (get_or xs k d)) → ys ≡ map f xs
map_by_all f [] [] d e same at = refl
map_by_all f [] (y ∷ ys) d e same at = absurd (omega arith)
map_by_all f (x ∷ xs) [] d e same at = absurd (omega arith)
map_by_all f (x ∷ xs) (y ∷ ys) d e same at =
    let first : y ≡ f x = at 0 (omega arith) in
    let rest : ys ≡ map f xs = map_by_all f xs ys d e (omega arith) (λ k within. at (suc k) (omega arith)) in
    cc
