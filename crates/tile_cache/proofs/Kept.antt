-- What is kept of a list from which the last are dropped until there is room for one more.
use Rattle.std.proofs.Common.{◌≡◌, ◌∙◌, ◌+◌, ◌<◌, ◌≤◌, ℕ, zero, suc, Bool, true, false, cond, nat_le, nat_lt, ltb-true}
use Rattle.std.proofs.Common.{List, [], ◌∷◌, length, take, map, refl, sym, ap, arith}
use borrow.Author.Tests.{leb-true}
use Rattle.std.specs.List.{sum_by}
use Rattle.std.proofs.lemmas.Bool.{and_parts}
use Rattle.std.proofs.lemmas.List.{length-map, take-map}
use Rattle.std.proofs.lemmas.List.Sums.{sum_by-cons}
use Rattle.tile_cache.specs.Kept.{dropped_until, has_room, kept, put_in}

pub dropped_until_done : {X : Type 0} (p : List X → Bool) (n : ℕ) (xs : List X)
    → p (take n xs) ≡ true → dropped_until p n xs ≡ take n xs
unfolding dropped_until
dropped_until_done p zero xs passes = refl
dropped_until_done p (suc n) xs passes = rw passes refl

pub dropped_until_less : {X : Type 0} (p : List X → Bool) (n m : ℕ) (xs : List X) → n ≡ suc m
    → p (take n xs) ≡ false → dropped_until p n xs ≡ dropped_until p m xs
unfolding dropped_until
dropped_until_less p zero m xs next fails = absurd (omega arith)
dropped_until_less p (suc n) m xs next fails = let same : n ≡ m = omega arith in rw (fails, same) refl

-- it is a prefix of the list
pub dropped_until-take : {X : Type 0} (p : List X → Bool) (n : ℕ) (xs : List X)
    → (k : ℕ) × (dropped_until p n xs ≡ take k xs)
unfolding dropped_until
dropped_until-take p zero xs = (0, refl)
dropped_until-take p (suc n) xs = go (p (take (suc n) xs)) (dropped_until-take p n xs)
  where
    go : (b : Bool) → (k : ℕ) × (dropped_until p n xs ≡ take k xs)
        → (k : ℕ) × (cond b (take (suc n) xs) (dropped_until p n xs) ≡ take k xs)
    go true prefix = (suc n, refl)
    go false prefix = prefix

-- the same is dropped of what the things become by a function that the test doesn't see
dropped_until-map : {X Y : Type 0} (f : X → Y) (p : List X → Bool) (q : List Y → Bool)
    → ((xs : List X) → p xs ≡ q (map f xs)) → (n : ℕ) (xs : List X)
    → map f (dropped_until p n xs) ≡ dropped_until q n (map f xs)
unfolding dropped_until
dropped_until-map f p q same zero xs = refl
dropped_until-map f p q same (suc n) xs =
    let prefix = take (suc n) xs in
    go (p prefix) (same prefix ∙ ap q (sym (take-map f (suc n) xs))) (dropped_until-map f p q same n xs)
  where
    go : (b : Bool) → b ≡ q (take (suc n) (map f xs)) → map f (dropped_until p n xs) ≡ dropped_until q n (map f xs)
        → map f (cond b (take (suc n) xs) (dropped_until p n xs))
        ≡ cond (q (take (suc n) (map f xs))) (take (suc n) (map f xs)) (dropped_until q n (map f xs))
    go true e rest = rw (← e) (sym (take-map f (suc n) xs))
    go false e rest = rw (← e) rest

-- ---- sizes that a function keeps

module _ {X Y : Type 0} (f : X → Y) (of_x : X → ℕ) (of_y : Y → ℕ) (same : (x : X) → of_y (f x) ≡ of_x x) where
  pub sum_by-kept : (xs : List X) → sum_by of_y (map f xs) ≡ sum_by of_x xs
  sum_by-kept [] = refl
  sum_by-kept (x ∷ xs) =
      let rest = sum_by-kept xs in
      let here = same x in
      sum_by-cons of_y (f x) (map f xs) ∙ rw (here, rest) (sym (sum_by-cons of_x x xs))

  room-map : (slots budget n : ℕ) (xs : List X)
      → has_room of_x slots budget n xs ≡ has_room of_y slots budget n (map f xs)
  room-map slots budget n xs = rw (sum_by-kept xs, length-map xs f) refl

  pub kept-map : (slots budget n : ℕ) (xs : List X)
      → map f (kept of_x slots budget n xs) ≡ kept of_y slots budget n (map f xs)
  kept-map slots budget n xs =
      let p = has_room of_x slots budget n in
      let q = has_room of_y slots budget n in
      dropped_until-map f p q (room-map slots budget n) (length xs) xs
      ∙ ap (λ (k : ℕ). dropped_until q k (map f xs)) (sym (length-map xs f))

  pub put_in-map : (slots budget : ℕ) (x : X) (xs : List X)
      → map f (put_in of_x slots budget x xs) ≡ put_in of_y slots budget (f x) (map f xs)
  put_in-map slots budget x xs =
      let put : ℕ → List Y = λ n. cond (nat_le n budget) (f x ∷ kept of_y slots budget n (map f xs)) (map f xs) in
      go (nat_le (of_x x) budget) ∙ ap put (sym (same x))
    where
      go : (b : Bool) → map f (cond b (x ∷ kept of_x slots budget (of_x x) xs) xs)
          ≡ cond b (f x ∷ kept of_y slots budget (of_x x) (map f xs)) (map f xs)
      go true = ap (λ (ys : List Y). f x ∷ ys) (kept-map slots budget (of_x x) xs)
      go false = refl

pub room_parts : {X : Type 0} (size : X → ℕ) (slots budget n : ℕ) (xs : List X) → has_room size slots budget n xs ≡ true
    → (sum_by size xs + n ≤ budget) × (length xs < slots)
room_parts size slots budget n xs room =
    let (fits, short) = and_parts (nat_le (sum_by size xs + n) budget) (nat_lt (length xs) slots) room in
    (leb-true (sum_by size xs + n) budget fits, ltb-true (length xs) slots short)
