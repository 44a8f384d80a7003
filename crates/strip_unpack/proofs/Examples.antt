-- The definitions at work.
use Rattle.std.proofs.Common.{◌≡◌, true, [], ◌∷◌, ◌++◌, refl}
use Rattle.std.specs.List.{flat_map}
use Rattle.tiff_dirs.specs.declared.Order.TheVariants.{Big, Little}
use Rattle.binary_digits.specs.Digits.{bits_of, byte_bits, number_of}
use Rattle.strip_unpack.specs.Samples.{file_order, needed_bytes, row_bytes, row_sample, sample_bits, unpacked}

-- AB CD EF spells ABC and DEF in either order
twelve_bits : byte_bits (0xAB ∷ 0xCD ∷ 0xEF ∷ []) ≡ flat_map (sample_bits Little 12) (0xABC ∷ 0xDEF ∷ [])
unfolding bits_of file_order sample_bits
twelve_bits = refl

-- 80 FF spells the sample 101 in nine digits, and seven ones after it
nine_bits : byte_bits (0x80 ∷ 0xFF ∷ []) ≡ flat_map (sample_bits Big 9) (0x101 ∷ []) ++ true ∷ true ∷ true ∷ true ∷ true
    ∷ true ∷ true ∷ []
unfolding bits_of file_order sample_bits
nine_bits = refl

-- two rows of three samples of 12 bits, with four digits after each
two_rows : unpacked Little 12 2 3 (0x12 ∷ 0x34 ∷ 0x56 ∷ 0x78 ∷ 0x9F ∷ 0xAB ∷ 0xCD ∷ 0xEF ∷ 0x01 ∷ 0x20 ∷ [])
    ≡ 0x123 ∷ 0x456 ∷ 0x789 ∷ 0xABC ∷ 0xDEF ∷ 0x012 ∷ []
unfolding bits_of number_of file_order row_sample unpacked
two_rows = refl

-- 34 12 is the sample 1234 in a little file, and 3412 in a big one
sixteen_bits_little : unpacked Little 16 1 1 (0x34 ∷ 0x12 ∷ []) ≡ 0x1234 ∷ []
unfolding bits_of number_of file_order row_sample unpacked
sixteen_bits_little = refl

sixteen_bits_big : unpacked Big 16 1 1 (0x34 ∷ 0x12 ∷ []) ≡ 0x3412 ∷ []
unfolding bits_of number_of file_order row_sample unpacked
sixteen_bits_big = refl

-- five samples of 12 bits take eight bytes, and three rows of them 24
five_columns : row_bytes 12 5 ≡ 8
five_columns = refl

three_rows : needed_bytes 12 3 5 ≡ 24
three_rows = refl
