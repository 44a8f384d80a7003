-- The encoder's stream: one of those that spell the samples (ITU-T T.81, annex H). Its table and its headers are this
-- project's own choice.
use Rattle.std.specs.Prelude.{◌≡◌, ℕ, suc, ◌+◌, ◌-◌, ◌/◌, ◌%◌, ◌^◌, ◌<◌, ◌==◌, nat_lt, unsigned_abs, if◌then◌else◌, ℤ}
use Rattle.std.specs.Prelude.{pos, negsuc, ◌-ℤ◌, Bool, true, List, [], ◌∷◌, ◌++◌, length, replicate, slice_index, Ok}
use Rattle.std.specs.Int.{leading_zeros, w32}
use Rattle.std.specs.List.{flat_map, range_with_len}
use Rattle.binary_digits.specs.Digits.{bits_of, byte_bits}
use Rattle.ljpeg_huffman.specs.Words.{Table, code_words}
use Rattle.ljpeg_huffman.specs.Differences.{further_bits, modulo}
use Rattle.ljpeg_predict.specs.Headers.{predictor_of}
use Rattle.ljpeg_predict.specs.Prediction.{prediction}
use Rattle.ljpeg_predict.specs.Scans.{Scan}
use Rattle.ljpeg_predict.specs.declared.scan.Predictor.{Predictor}

-- the code words: 14 of length 4 for the categories 0 to 13, and 3 of length 5 for the categories 14 to 16
unfoldable pub encoder_table : Table
encoder_table =
    code_words (0 ∷ 0 ∷ 0 ∷ 14 ∷ 3 ∷ 0 ∷ 0 ∷ 0 ∷ 0 ∷ 0 ∷ 0 ∷ 0 ∷ 0 ∷ 0 ∷ 0 ∷ 0 ∷ [])
    (0 ∷ 1 ∷ 2 ∷ 3 ∷ 4 ∷ 5 ∷ 6 ∷ 7 ∷ 8 ∷ 9 ∷ 10 ∷ 11 ∷ 12 ∷ 13 ∷ 14 ∷ 15 ∷ 16 ∷ [])

-- the same code words one by one
abbrev pub code_word : ℕ → List Bool
code_word category = if nat_lt category 14 then bits_of 4 category else bits_of 5 (category + 14)

-- the category of a difference: how many binary digits its magnitude has (T.81, table H.2)
abbrev pub category_of : ℤ → ℕ
category_of difference = 32 - leading_zeros w32 (unsigned_abs difference)

-- the number that the further bits of a difference spell (T.81, figure F.12)
abbrev pub extra_of : ℤ → ℕ
extra_of (pos n) = n
extra_of (negsuc n) = 2 ^ category_of (negsuc n) - 1 - suc n

-- the bits of a difference: the code word of its category, and its further bits
unfoldable pub difference_bits : ℤ → List Bool
difference_bits difference =
    code_word (category_of difference) ++ bits_of (further_bits (category_of difference)) (extra_of difference)

-- the number from -32767 to 32768 that is this one modulo 2^16
abbrev pub signed : ℕ → ℤ
signed number = if nat_lt 32768 number then pos number -ℤ pos 65536 else pos number

-- the difference of the sample at a place from its prediction
unfoldable pub difference_at : Scan → List ℕ → ℕ → ℤ
difference_at scan samples place = signed (modulo (pos (slice_index samples place) -ℤ prediction scan samples place))

-- the bits of the differences of the first samples, as many as `count`
unfoldable pub sample_bits : Scan → List ℕ → ℕ → List Bool
sample_bits scan samples count =
    flat_map (λ place. difference_bits (difference_at scan samples place)) (range_with_len 0 count)

-- the bytes of data, with a zero stuffed behind each FF
unfoldable pub stuffed : List ℕ → List ℕ
stuffed bytes = flat_map (λ byte. if byte == 0xFF then 0xFF ∷ 0 ∷ [] else byte ∷ []) bytes

-- the headers: SOI; SOF3 with one component; DHT with the encoder's table; SOS with the predictor's selection value
abbrev pub head : ℕ → ℕ → ℕ → ℕ → List ℕ
head precision lines columns selection =
    0xFF ∷ 0xD8
    ∷ 0xFF ∷ 0xC3 ∷ 0 ∷ 11 ∷ precision ∷ lines / 256 ∷ lines % 256 ∷ columns / 256 ∷ columns % 256 ∷ 1 ∷ 1 ∷ 0x11 ∷ 0
    ∷ 0xFF ∷ 0xC4 ∷ 0 ∷ 36 ∷ 0 ∷ 0 ∷ 0 ∷ 0 ∷ 14 ∷ 3 ∷ 0 ∷ 0 ∷ 0 ∷ 0 ∷ 0 ∷ 0 ∷ 0 ∷ 0 ∷ 0 ∷ 0 ∷ 0
    ∷ 0 ∷ 1 ∷ 2 ∷ 3 ∷ 4 ∷ 5 ∷ 6 ∷ 7 ∷ 8 ∷ 9 ∷ 10 ∷ 11 ∷ 12 ∷ 13 ∷ 14 ∷ 15 ∷ 16
    ∷ 0xFF ∷ 0xDA ∷ 0 ∷ 8 ∷ 1 ∷ 1 ∷ 0 ∷ selection ∷ 0 ∷ 0 ∷ []

-- the scan that the headers tell
abbrev pub written_scan : ℕ → ℕ → ℕ → Predictor → List ℕ → Scan
written_scan precision lines columns predictor bytes = record {
  precision = precision;
  lines = lines;
  columns = columns;
  tables = encoder_table ∷ [];
  predictor = predictor;
  bytes = bytes;
}

-- The bytes are the encoder's stream: the headers, the bits of all differences and fewer than eight ones in whole
-- bytes, stuffed, and EOI (T.81, F.1.2.3).
pub record IsStream (samples : List ℕ) (lines columns precision selection : ℕ) (bytes : List ℕ) : Type 0 where
  pub predictor : Predictor
  pub chosen : predictor_of selection ≡ Ok predictor
  pub stretch : List ℕ
  pub ones : ℕ
  pub few : ones < 8
  pub digits : byte_bits stretch
      ≡ sample_bits (written_scan precision lines columns predictor []) samples (length samples) ++ replicate ones true
  pub is : bytes ≡ head precision lines columns selection ++ stuffed stretch ++ 0xFF ∷ 0xD9 ∷ []

-- the new bytes are the old ones and, behind them, some for which P holds
abbrev pub Appends : List ℕ → List ℕ → (List ℕ → Type 0) → Type 0
Appends old new P = (bytes : List ℕ) × P bytes × (new ≡ old ++ bytes)
