-- The code words of a table (ITU-T T.81, Annex C).
use Rattle.std.specs.Prelude.{◌≡◌, ℕ, suc, ◌+◌, ◌-◌, ◌*◌, ◌^◌, Bool, List, [], ◌∷◌, ◌++◌, take, drop, ◌==◌}
use Rattle.std.specs.Prelude.{if◌then◌else◌, AllPairs, sum, Option, Some, None, option_map, unwrap_or, find, nat_lt}
use Rattle.binary_digits.specs.Digits.{bits_of}
use Rattle.ljpeg_huffman.specs.declared.table.TableFault.{TableFault}
use Rattle.ljpeg_huffman.specs.declared.table.TableFault.TheVariants.{Empty, TooMany, Category, Overfull}

-- A table is a list of code words, each with the category that it stands for.
abbrev pub Table : Type 0
Table = List (List Bool × ℕ)

-- The code words of `size` bits for these categories: the first is the number `code`, and each next one is one more
-- (T.81, figure C.2).
unfoldable pub words_of_length : ℕ → ℕ → List ℕ → Table
words_of_length size code [] = []
words_of_length size code (category ∷ categories) =
    (bits_of size code, category) ∷ words_of_length size (suc code) categories

-- The code words from a length on, of which the first is the number `code`, as many of each length as its count says.
-- At each next length the code is doubled (figure C.2).
unfoldable pub words_from : ℕ → ℕ → List ℕ → List ℕ → Table
words_from size code [] values = []
words_from size code (count ∷ counts) values =
    words_of_length size code (take count values)
    ++ words_from (suc size) (2 * (code + count)) counts (drop count values)

-- The code words in the order of their values: of length 1 from 0 on, as many as the first count, and so on
-- (Annex C.2).
unfoldable pub code_words : List ℕ → List ℕ → Table
code_words counts values = words_from 1 0 counts values

-- How many of the 2^16 lists of 16 bits begin with a code word, from a length on.
unfoldable pub space_from : ℕ → List ℕ → ℕ
space_from size [] = 0
space_from size (count ∷ counts) = count * 2 ^ (16 - size) + space_from (suc size) counts

-- Bits begin with a code word.
abbrev pub IsPrefix : List Bool → List Bool → Type 0
IsPrefix word bits = (rest : List Bool) × (bits ≡ word ++ rest)

-- No code word is a prefix of another (Annex C asks it of each table).
abbrev pub IsPrefixFree : Table → Type 0
IsPrefixFree table = AllPairs (λ a b. (¬ IsPrefix a.0 b.0) × (¬ IsPrefix b.0 a.0)) table

-- The first reason for which lengths and values make no table, in this order: they are none, more than 256, a value
-- is no category, or the code words of some length are more than are left there.
unfoldable pub table_fault : List ℕ → List ℕ → Option TableFault
table_fault counts values =
    if sum counts == 0 then Some Empty
    else (if nat_lt 256 (sum counts) then Some TooMany
    else unwrap_or (option_map (λ v. Some (Category v)) (find (nat_lt 16) values))
    (if nat_lt (2 ^ 16) (space_from 1 counts) then Some Overfull else None))
