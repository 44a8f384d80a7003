-- What a stream answers, computed bit by bit: the one answer that the stream definition allows (ITU-T T.81, annexes F
-- and H).
use Rattle.std.specs.Prelude.{ℕ, zero, suc, nat_lt, if◌then◌else◌, Bool, true, false, List, [], ◌∷◌, ◌++◌, length, take}
use Rattle.std.specs.Prelude.{drop, ℤ, ◌+ℤ◌, Option, None, Some, Result, Ok, Err}
use Rattle.std.specs.List.{list_any}
use Rattle.binary_digits.specs.Digits.{number_of}
use Rattle.ljpeg_huffman.specs.Words.{Table}
use Rattle.ljpeg_huffman.specs.Differences.{data_bits, difference, further_bits, modulo}
use Rattle.ljpeg_huffman.specs.declared.bits.BitFault.{BitFault}
use Rattle.ljpeg_huffman.specs.declared.bits.BitFault.TheVariants as bit
use Rattle.ljpeg_predict.specs.Chain.{◌>>=◌}
use Rattle.ljpeg_predict.specs.Headers.{scan_in}
use Rattle.ljpeg_predict.specs.Prediction.{prediction}
use Rattle.ljpeg_predict.specs.Scans.{Scan, table_at}
use Rattle.ljpeg_predict.specs.declared.JpegFault.{JpegFault}
use Rattle.ljpeg_predict.specs.declared.JpegFault.TheVariants as fault

-- the bits behind a code word, where they begin with it
abbrev pub behind : List Bool → List Bool → Option (List Bool)
behind [] bits = Some bits
behind (digit ∷ word) [] = None
behind (true ∷ word) (true ∷ bits) = behind word bits
behind (true ∷ word) (false ∷ bits) = None
behind (false ∷ word) (true ∷ bits) = None
behind (false ∷ word) (false ∷ bits) = behind word bits

-- a code word's category, and the bits behind the word
pub record Code : Type 0 where
  pub category : ℕ
  pub rest : List Bool

-- the code word that bits begin with, or the one that the table's later words give
abbrev pub code_or : ℕ → Option (List Bool) → Option Code → Option Code
code_or category (Some rest) later = Some (record { category = category; rest = rest })
code_or category None later = later

-- the code word of a table that bits begin with
unfoldable pub code_in : Table → List Bool → Option Code
code_in [] bits = None
code_in (entry ∷ table) bits = code_or entry.1 (behind entry.0 bits) (code_in table bits)

-- whether something follows
abbrev pub goes_on : Option (List Bool) → Bool
goes_on (Some (digit ∷ word)) = true
goes_on _ = false

-- a difference, and the bits behind it
pub record Taken : Type 0 where
  pub value : ℤ
  pub rest : List Bool

-- the difference of a category from its further bits (H.1.2.2)
abbrev pub taken : Code → Result Taken BitFault
taken code =
    let further = further_bits code.category in
    if nat_lt (length code.rest) further then Err bit.Ended
    else Ok (record {
      value = difference code.category (number_of (take further code.rest));
      rest = drop further code.rest;
    })

-- the difference of a code word that was found; where none was, the bits ended within one or are of none
abbrev pub taken_or : (is_cut : Bool) → Option Code → Result Taken BitFault
taken_or is_cut (Some code) = taken code
taken_or true None = Err bit.Ended
taken_or false None = Err bit.NoCode

-- the difference that a prefix of bits spells
unfoldable pub difference_in : Table → List Bool → Result Taken BitFault
difference_in table bits = taken_or (list_any (λ entry. goes_on (behind bits entry.0)) table) (code_in table bits)

-- a difference before others
abbrev pub before : ℤ → Result (List ℤ) BitFault → Result (List ℤ) BitFault
before value (Ok values) = Ok (value ∷ values)
before value (Err reason) = Err reason

-- a difference, and what the bits behind it give
abbrev pub then_more : Result Taken BitFault → (List Bool → Result (List ℤ) BitFault) → Result (List ℤ) BitFault
then_more (Ok next) more = before next.value (more next.rest)
then_more (Err reason) more = Err reason

-- so many differences that a prefix of bits spells, each of the table of its place
unfoldable pub differences_in : (ℕ → Table) → ℕ → List Bool → Result (List ℤ) BitFault
differences_in tables zero bits = Ok []
differences_in tables (suc count) bits =
    then_more (difference_in (tables 0) bits) (differences_in (λ place. tables (suc place)) count)

-- samples behind samples, each predicted from those before it (H.1.2.1)
unfoldable pub rebuilt_behind : Scan → List ℕ → List ℤ → List ℕ
rebuilt_behind scan samples [] = samples
rebuilt_behind scan samples (value ∷ values) =
    rebuilt_behind scan (samples ++ modulo (prediction scan samples (length samples) +ℤ value) ∷ []) values

-- why a stream is refused whose data are too few
abbrev pub data_fault : BitFault → JpegFault
data_fault bit.Ended = fault.Ended
data_fault bit.NoCode = fault.NoCode

-- the samples of differences, or the stream's refusal
abbrev pub samples_of : Scan → Result (List ℤ) BitFault → Result (List ℕ) JpegFault
samples_of scan (Ok differences) = Ok (rebuilt_behind scan [] differences)
samples_of scan (Err reason) = Err (data_fault reason)

-- the samples of a stream that has so many, or its first refusal
unfoldable pub decoded : List ℕ → ℕ → Result (List ℕ) JpegFault
decoded bytes want =
    scan_in bytes want >>= (λ scan. samples_of scan (differences_in (table_at scan) want (data_bits scan.bytes)))

-- what a call that writes these samples tells
abbrev pub told : {E : Type 0} → Result (Unit {0}) E → List ℕ → Result (List ℕ) E
told (Ok none) samples = Ok samples
told (Err fault) samples = Err fault
