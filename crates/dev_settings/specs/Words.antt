-- The words of a script line and the numbers among them, which are this project's own.
use Rattle.std.specs.Prelude.{ℕ, ℤ, pos, neg_ℤ, ◌^◌, List, [], ◌∷◌, Bool, Option, Some, None, ◌&&◌, if◌then◌else◌, ◌==◌}
use Rattle.std.specs.Prelude.{nat_lt, nat_le, length, filter, option_map}
use Rattle.std.specs.Char.{is_ascii_digit}
use Rattle.std.specs.List.{list_all, slice_split}
use Rattle.std.specs.Str.Parse.{digits_value}

-- the words of a line: what stands between spaces, so that several spaces in a row, and spaces at
-- either end, separate as one does
abbrev pub words : List ℕ → List (List ℕ)
words line = filter (λ piece. nat_lt 0 (length piece)) (slice_split (λ byte. byte == 32) line)

-- the word is 1 to 10 decimal digits
abbrev pub is_numeral : List ℕ → Bool
is_numeral word = nat_lt 0 (length word) && nat_le (length word) 10 && list_all is_ascii_digit word

-- the number that such a word writes, where it is below 2^32
abbrev pub number_of : List ℕ → Option ℕ
number_of word = if is_numeral word && nat_lt (digits_value 10 word) (2 ^ 32) then Some (digits_value 10 word) else None

-- the integer that a word writes: a number
abbrev pub unsigned_of : List ℕ → Option ℤ
unsigned_of word = option_map pos (number_of word)

-- the integer that a word writes: a number, or a minus sign (45) and a number
abbrev pub signed_of : List ℕ → Option ℤ
signed_of [] = None
signed_of (byte ∷ rest) =
    if byte == 45 then option_map (λ n. neg_ℤ (pos n)) (number_of rest)
    else unsigned_of (byte ∷ rest)
