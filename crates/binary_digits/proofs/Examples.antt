-- The definitions at work.
use Rattle.std.proofs.Common.{◌≡◌, true, false, [], ◌∷◌, refl}
use Rattle.binary_digits.specs.Digits.{bits_of, byte_bits, number_of}

-- ten in four digits, and in two
ten : bits_of 4 10 ≡ true ∷ false ∷ true ∷ false ∷ []
unfolding bits_of
ten = refl

low_of_ten : bits_of 2 10 ≡ true ∷ false ∷ []
unfolding bits_of
low_of_ten = refl

-- 01101 spells 13
thirteen : number_of (false ∷ true ∷ true ∷ false ∷ true ∷ []) ≡ 13
unfolding number_of
thirteen = refl

-- the bytes 81 02
two_bytes : byte_bits (0x81 ∷ 0x02 ∷ [])
    ≡ true ∷ false ∷ false ∷ false ∷ false ∷ false ∷ false ∷ true
    ∷ false ∷ false ∷ false ∷ false ∷ false ∷ false ∷ true ∷ false ∷ []
unfolding bits_of
two_bytes = refl
