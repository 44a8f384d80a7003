-- The colour filter array of 2 by 2 (DNG 1.6, CFAPattern; TIFF/EP): 0 is red, 1 green, 2 blue.
use Rattle.std.specs.Prelude.{◌≡◌, ℕ, ◌+◌, ◌*◌, ◌%◌, ◌⊎◌, List, [], ◌∷◌, slice_index}

-- the colour of the pixel at row r, column c
abbrev pub colour_at : List ℕ → ℕ → ℕ → ℕ
colour_at cfa r c = slice_index cfa (r % 2 * 2 + c % 2)

-- the pattern is one of the four that are developed: green on one diagonal, red and blue on the other
abbrev pub IsBayer : List ℕ → Type 0
IsBayer cfa =
    (cfa ≡ 0 ∷ 1 ∷ 1 ∷ 2 ∷ [])
    ⊎ ((cfa ≡ 2 ∷ 1 ∷ 1 ∷ 0 ∷ []) ⊎ ((cfa ≡ 1 ∷ 0 ∷ 2 ∷ 1 ∷ []) ⊎ (cfa ≡ 1 ∷ 2 ∷ 0 ∷ 1 ∷ [])))
