-- The field types (TIFF 6.0, section 2, "Types"; number 13, IFD, is of Adobe's TIFF Technical Note 1, "TIFF Trees").
use Rattle.std.specs.Prelude.{ℕ, ◌==◌, nat_lt, Bool, ◌||◌, ◌&&◌, List, [], ◌∷◌, slice_index}

-- the bytes of one value of each type: none, BYTE, ASCII, SHORT, LONG, RATIONAL, SBYTE, UNDEFINED, SSHORT,
-- SLONG, SRATIONAL, FLOAT, DOUBLE, IFD
abbrev pub kind_sizes : List ℕ
kind_sizes = 0 ∷ 1 ∷ 1 ∷ 2 ∷ 4 ∷ 8 ∷ 1 ∷ 1 ∷ 2 ∷ 4 ∷ 8 ∷ 4 ∷ 8 ∷ 4 ∷ []

-- the bytes of one value of a type, 0 where a number is no type
unfoldable pub size_of : ℕ → ℕ
size_of kind = slice_index kind_sizes kind

-- whether a number is one of the 13 types
abbrev pub is_kind : ℕ → Bool
is_kind kind = nat_lt 0 kind && nat_lt kind 14

-- FLOAT and DOUBLE
abbrev pub is_float : ℕ → Bool
is_float kind = kind == 11 || kind == 12

-- the types whose values `number` gives: BYTE, SHORT, LONG and IFD
abbrev pub is_whole : ℕ → Bool
is_whole kind = kind == 1 || kind == 3 || kind == 4 || kind == 13

-- the types whose values `rational` gives: SHORT, LONG, RATIONAL, SSHORT, SLONG and SRATIONAL
abbrev pub is_fraction : ℕ → Bool
is_fraction kind = kind == 3 || kind == 4 || kind == 5 || kind == 8 || kind == 9 || kind == 10
