-- The definitions at work on lists of one opcode.
use Rattle.std.proofs.Common.{◌≡◌, ℕ, List, [], ◌∷◌, ◌++◌, Ok, Err, Some, refl}
use Rattle.opcode_list.specs.Cuts.{cut_opcodes, first_opcode, long_at, short_at}
use Rattle.opcode_list.specs.Lists.{barred_by, opcode_of, opcodes_from, opcodes_of}
use Rattle.opcode_list.specs.Params.{map_of, opcode_with, rect_at, table_at, trim_of}
use Rattle.opcode_list.specs.declared.opcode.Opcode.TheVariants.{Map, Skipped, Trim}
use Rattle.opcode_list.specs.declared.opcode.OpcodeFault.TheVariants.{BadParams, Newer, NotHere, TooMany, Truncated}
use Rattle.opcode_list.specs.declared.opcode.OpcodeFault.TheVariants.{Unknown}

-- a list of one opcode of the version 1.minor, with the flags 0 or 1 and at most 255 bytes of parameters
abbrev one : ℕ → ℕ → ℕ → ℕ → List ℕ → List ℕ
one id minor flags size params =
    (0 ∷ 0 ∷ 0 ∷ 1 ∷ 0 ∷ 0 ∷ 0 ∷ id ∷ 1 ∷ minor ∷ 0 ∷ 0 ∷ 0 ∷ 0 ∷ 0 ∷ flags ∷ 0 ∷ 0 ∷ 0 ∷ size ∷ []) ++ params

-- the rectangle 1 0 8 9
abbrev rect_bytes : List ℕ
rect_bytes = 0 ∷ 0 ∷ 0 ∷ 1 ∷ 0 ∷ 0 ∷ 0 ∷ 0 ∷ 0 ∷ 0 ∷ 0 ∷ 8 ∷ 0 ∷ 0 ∷ 0 ∷ 9 ∷ []

-- plane 0, planes 1, pitches 2 and 3, and the entries 5 and 263
abbrev map_bytes : List ℕ
map_bytes =
    rect_bytes
    ++ (0 ∷ 0 ∷ 0 ∷ 0 ∷ 0 ∷ 0 ∷ 0 ∷ 1 ∷ 0 ∷ 0 ∷ 0 ∷ 2 ∷ 0 ∷ 0 ∷ 0 ∷ 3 ∷ 0 ∷ 0 ∷ 0 ∷ 2 ∷ 0 ∷ 5 ∷ 1 ∷ 7 ∷ [])

none : opcodes_of 1 (0 ∷ 0 ∷ 0 ∷ 0 ∷ 7 ∷ []) ≡ Ok []
unfolding opcodes_of opcodes_from cut_opcodes long_at
none = refl

short : opcodes_of 1 (0 ∷ 0 ∷ 0 ∷ []) ≡ Err (Truncated 0)
unfolding opcodes_of
short = refl

many : opcodes_of 1 (0 ∷ 0 ∷ 0 ∷ 17 ∷ []) ≡ Err TooMany
unfolding opcodes_of long_at
many = refl

cut : opcodes_of 1 (one 6 3 1 17 rect_bytes) ≡ Err (Truncated 0)
unfolding opcodes_of opcodes_from cut_opcodes first_opcode long_at
cut = refl

trim : opcodes_of 3 (one 6 3 0 16 rect_bytes) ≡ Ok (Trim (record { top = 1; left = 0; bottom = 8; right = 9 }) ∷ [])
unfolding opcodes_of opcodes_from cut_opcodes first_opcode long_at opcode_of barred_by opcode_with trim_of rect_at
trim = refl

mapped : map_of map_bytes ≡ Some (Map (record { top = 1; left = 0; bottom = 8; right = 9 }) 0 1 2 3 (5 ∷ 263 ∷ []))
unfolding map_of rect_at table_at long_at short_at
mapped = refl

newer : opcodes_of 1 (one 1 7 0 0 []) ≡ Err (Newer 0 1)
unfolding opcodes_of opcodes_from cut_opcodes first_opcode long_at opcode_of barred_by
newer = refl

unknown : opcodes_of 1 (one 8 6 2 0 []) ≡ Err (Unknown 0 8)
unfolding opcodes_of opcodes_from cut_opcodes first_opcode long_at opcode_of barred_by
unknown = refl

misplaced : opcodes_of 3 (one 5 6 0 0 []) ≡ Err (NotHere 0 5)
unfolding opcodes_of opcodes_from cut_opcodes first_opcode long_at opcode_of barred_by
misplaced = refl

optional : opcodes_of 3 (one 5 6 3 0 []) ≡ Ok (Skipped 5 ∷ [])
unfolding opcodes_of opcodes_from cut_opcodes first_opcode long_at opcode_of barred_by
optional = refl

bad : opcodes_of 1 (one 6 6 1 15 rect_bytes) ≡ Err (BadParams 0 6)
unfolding opcodes_of opcodes_from cut_opcodes first_opcode long_at opcode_of barred_by opcode_with trim_of
bad = refl
