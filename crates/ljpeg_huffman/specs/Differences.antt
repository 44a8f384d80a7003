-- Data bits, and the differences that they spell (ITU-T T.81, Annex H.1.2 and F.2.2).
use Rattle.std.specs.Prelude.{◌≡◌, ℕ, suc, ◌-◌, ◌*◌, ◌^◌, ◌<◌, ◌%◌, unsigned_abs, map, slice_index_or, Bool, List, []}
use Rattle.std.specs.Prelude.{◌∷◌, ◌++◌, length, ◌==◌, nat_lt, if◌then◌else◌, Contains, ℤ, pos, ◌-ℤ◌, ◌⊎◌}
use Rattle.std.specs.Int.{int_rem_euclid}
use Rattle.binary_digits.specs.Digits.{bits_of, byte_bits}
use Rattle.ljpeg_huffman.specs.declared.bits.BitFault.{BitFault}
use Rattle.ljpeg_huffman.specs.declared.bits.BitFault.TheVariants.{Ended, NoCode}
use Rattle.ljpeg_huffman.specs.Words.{Table, IsPrefix}

-- The bytes of the data: a zero behind an FF is stuffed and taken out. An FF that no zero follows ends them (T.81,
-- F.1.2.3 and B.1.1.5).
unfoldable pub unstuffed : List ℕ → List ℕ
unstuffed [] = []
unstuffed (byte ∷ []) = if byte == 255 then [] else byte ∷ []
unstuffed (byte ∷ next ∷ bytes) =
    if byte == 255 then (if next == 0 then 255 ∷ unstuffed bytes else []) else byte ∷ unstuffed (next ∷ bytes)

-- The data bits of a stretch of bytes: eight of each byte, the most significant first.
unfoldable pub data_bits : List ℕ → List Bool
data_bits bytes = byte_bits (unstuffed bytes)

-- How many further bits follow a category's code word: none follow category 16 (T.81, H.1.2.2, table H.2).
abbrev pub further_bits : ℕ → ℕ
further_bits category = if category == 16 then 0 else category

-- The difference of a category whose further bits spell the number `extra`: where the first of them is 0 it is
-- negative (T.81, H.1.2.2 and figure F.12). At category 0 it is 0.
abbrev pub difference : ℕ → ℕ → ℤ
difference category extra =
    if category == 16 then pos 32768
    else (if nat_lt (2 * extra) (2 ^ category) then pos extra -ℤ pos (2 ^ category - 1) else pos extra)

-- The bits are one code word of the table and its further bits, and stand for this difference.
pub record SpellsOne (table : Table) (bits : List Bool) (value : ℤ) : Type 0 where
  pub word : List Bool
  pub category : ℕ
  pub extra : ℕ
  pub listed : Contains table (word, category)
  pub spelled : bits ≡ word ++ bits_of (further_bits category) extra
  pub extra_fits : extra < 2 ^ further_bits category
  pub stands_for : value ≡ difference category extra

-- The bits are, for each difference in order, one code word of the table of its place and its further bits.
abbrev pub Spells : (ℕ → Table) → List Bool → List ℤ → Type 0
Spells tables bits [] = bits ≡ []
Spells tables bits (value ∷ values) =
    (first : List Bool) × (rest : List Bool) × (bits ≡ first ++ rest) × SpellsOne (tables 0) first value
    × Spells (λ place. tables (suc place)) rest values

-- Some code word is a prefix of the bits.
abbrev pub BeginsWithCode : Table → List Bool → Type 0
BeginsWithCode table bits = (word : List Bool) × (category : ℕ) × Contains table (word, category) × IsPrefix word bits

-- The bits are a proper prefix of some code word.
abbrev pub IsCutCode : Table → List Bool → Type 0
IsCutCode table bits =
    (word : List Bool) × (category : ℕ) × Contains table (word, category)
    × ((bit : Bool) × (rest : List Bool) × (word ≡ bits ++ bit ∷ rest))

-- The bits begin with a code word, and too few are left for its further bits.
abbrev pub LacksFurtherBits : Table → List Bool → Type 0
LacksFurtherBits table bits =
    (word : List Bool) × (category : ℕ) × Contains table (word, category)
    × ((rest : List Bool) × (bits ≡ word ++ rest) × (length rest < further_bits category))

-- The bits end within a difference: in its code word, or in its further bits.
abbrev pub EndsWithin : Table → List Bool → Type 0
EndsWithin table bits = ((¬ BeginsWithCode table bits) × IsCutCode table bits) ⊎ LacksFurtherBits table bits

-- No code word is a prefix of the bits, and they are no proper prefix of one.
abbrev pub HasNoCode : Table → List Bool → Type 0
HasNoCode table bits = (¬ BeginsWithCode table bits) × (¬ IsCutCode table bits)

-- No prefix of the bits spells a difference of the table, for this reason.
abbrev pub IsRefused : Table → List Bool → BitFault → Type 0
IsRefused table bits Ended = EndsWithin table bits
IsRefused table bits NoCode = HasNoCode table bits

-- A number modulo 2^16, as differences are meant (T.81, H.1.2.1).
abbrev pub modulo : ℤ → ℕ
modulo number = unsigned_abs (int_rem_euclid number (pos (2 ^ 16)))

-- The table of a place where tables take turns.
abbrev pub by_turns : List Table → ℕ → Table
by_turns tables place = slice_index_or tables (place % length tables) []

-- The bits begin with differences, which these are modulo 2^16, and go on with `rest`.
pub record Takes (tables : ℕ → Table) (bits : List Bool) (numbers : List ℕ) (rest : List Bool) : Type 0 where
  pub values : List ℤ
  pub taken : List Bool
  pub parts : bits ≡ taken ++ rest
  pub spelled : Spells tables taken values
  pub each : numbers ≡ map modulo values

-- The bits begin with fewer differences than `count`, and no further one stands behind them, for this reason.
pub record StopsShort (tables : ℕ → Table) (bits : List Bool) (count : ℕ) (fault : BitFault) : Type 0 where
  pub values : List ℤ
  pub taken : List Bool
  pub rest : List Bool
  pub parts : bits ≡ taken ++ rest
  pub spelled : Spells tables taken values
  pub few : length values < count
  pub refused : IsRefused (tables (length values)) rest fault
