-- Uncompressed samples as bytes (TIFF 6.0, section 8, "BitsPerSample", and "FillOrder" 1; DNG 1.6, "BitsPerSample").
use Rattle.std.specs.Prelude.{◌≡◌, ℕ, ◌+◌, ◌*◌, ◌/◌, ◌%◌, ◌^◌, ◌<◌, ◌==◌, if◌then◌else◌, Bool, List, ◌++◌, length, map}
use Rattle.std.specs.Prelude.{take, drop, All}
use Rattle.std.specs.List.{flat_map, range_with_len}
use Rattle.std.specs.Fork.{slice_chunk}
use Rattle.binary_digits.specs.Digits.{bits_of, byte_bits, number_of}
use Rattle.tiff_dirs.specs.declared.Order.{Order}
use Rattle.tiff_dirs.specs.declared.Order.TheVariants.{Big, Little}

-- the digits of a sample as they stand in a file, from those of its number, and back: at depth 16 the two bytes stand
-- in the file's order, and at a lesser depth the digits stand most significant first in either order
unfoldable pub file_order : Order → ℕ → List Bool → List Bool
file_order Big depth bits = bits
file_order Little depth bits = if depth == 16 then drop 8 bits ++ take 8 bits else bits

-- the binary digits of a sample as they stand in a file
unfoldable pub sample_bits : Order → ℕ → ℕ → List Bool
sample_bits order depth x = file_order order depth (bits_of depth x)

-- bytes spell samples of a depth: the digits of each, one after the other, and then any digits up to a whole byte
pub record Spells (bits_of_sample : ℕ → List Bool) (depth : ℕ) (samples bytes : List ℕ) : Type 0 where
  pub fits : All (λ x. x < 2 ^ depth) samples
  pub padding : List Bool
  pub within_byte : length padding < 8
  pub spelled : byte_bits bytes ≡ flat_map bits_of_sample samples ++ padding

-- how many bytes a row of samples takes
abbrev pub row_bytes : ℕ → ℕ → ℕ
row_bytes depth cols = (cols * depth + 7) / 8

-- how many bytes rows of samples take
abbrev pub needed_bytes : ℕ → ℕ → ℕ → ℕ
needed_bytes depth rows cols = rows * row_bytes depth cols

-- bytes spell rows of samples: each row begins at a byte, right after the row before
pub record SpellsRows (order : Order) (depth rows cols : ℕ) (samples bytes : List ℕ) : Type 0 where
  pub count : length samples ≡ rows * cols
  pub row : (k : ℕ) → k < rows
      → Spells (sample_bits order depth) depth (slice_chunk samples cols k) (slice_chunk bytes (row_bytes depth cols) k)

-- sample i of the bytes of a row
unfoldable pub row_sample : Order → ℕ → List ℕ → ℕ → ℕ
row_sample order depth bytes i = number_of (file_order order depth (slice_chunk (byte_bits bytes) depth i))

-- the samples of rows of bytes, row by row
unfoldable pub unpacked : Order → (depth rows cols : ℕ) → List ℕ → List ℕ
unpacked order depth rows cols bytes =
    map (λ i. row_sample order depth (slice_chunk bytes (row_bytes depth cols) (i / cols)) (i % cols))
    (range_with_len 0 (rows * cols))

-- the bytes spell these samples and no others
pub record HasOneSpelling (order : Order) (depth rows cols : ℕ) (samples bytes : List ℕ) : Type 0 where
  pub spelled : SpellsRows order depth rows cols samples bytes
  pub only : (others : List ℕ) → SpellsRows order depth rows cols others bytes → others ≡ samples
