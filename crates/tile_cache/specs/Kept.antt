-- What a put keeps of a list of things that have a size, the most recent first: of pairs of a key and samples, or of a
-- key and a size. All of it is this project's own.
use Rattle.std.specs.Prelude.{ℕ, zero, suc, ◌+◌, ◌&&◌, Bool, List, [], ◌∷◌, length, take, nat_le, nat_lt, if◌then◌else◌}
use Rattle.std.specs.List.{sum_by}

-- the list has room for one more, of size n
abbrev pub has_room : {X : Type 0} → (X → ℕ) → ℕ → ℕ → ℕ → List X → Bool
has_room size slots budget n xs = nat_le (sum_by size xs + n) budget && nat_lt (length xs) slots

-- the first k, from which the last is dropped until what is left passes the test
unfoldable pub dropped_until : {X : Type 0} → (List X → Bool) → ℕ → List X → List X
dropped_until passes zero xs = []
dropped_until passes (suc k) xs = if passes (take (suc k) xs) then take (suc k) xs else dropped_until passes k xs

-- what is kept where one more, of size n, is to come: the last are dropped until there is room
abbrev pub kept : {X : Type 0} → (X → ℕ) → ℕ → ℕ → ℕ → List X → List X
kept size slots budget n xs = dropped_until (has_room size slots budget n) (length xs) xs

-- after a put: the new one stands in front of what is kept. One above the budget changes nothing.
abbrev pub put_in : {X : Type 0} → (X → ℕ) → ℕ → ℕ → X → List X → List X
put_in size slots budget x xs = if nat_le (size x) budget then x ∷ kept size slots budget (size x) xs else xs
