-- The definitions at work.
use Rattle.std.proofs.Common.{◌≡◌, true, false, [], ◌∷◌, pos, negsuc, refl}
use Rattle.binary_digits.specs.Digits.{bits_of}
use Rattle.ljpeg_huffman.specs.Differences.{difference, unstuffed}
use Rattle.ljpeg_huffman.specs.Words.{code_words, words_from, words_of_length}

-- Two code words of one bit, and one of two: 0, 10 and 11 (an example).
code_words-example : code_words (1 ∷ 2 ∷ []) (5 ∷ 7 ∷ 6 ∷ []) ≡ (false ∷ [], 5) ∷ (true ∷ false ∷ [], 7)
    ∷ (true ∷ true ∷ [], 6) ∷ []
unfolding code_words words_from words_of_length bits_of
code_words-example = refl

-- Category 3 (T.81, table F.1): 000 is -7, 011 is -4, 100 is 4. Category 0 is 0.
difference-example : (difference 3 0 ≡ negsuc 6) × (difference 3 3 ≡ negsuc 3) × (difference 3 4 ≡ pos 4)
    × (difference 0 0 ≡ pos 0) × (difference 1 0 ≡ negsuc 0) × (difference 15 32767 ≡ pos 32767)
difference-example = (refl, refl, refl, refl, refl, refl)

-- FF 00 is one byte of data, and FF D9 ends it.
unstuffed-example : unstuffed (255 ∷ 0 ∷ 163 ∷ 255 ∷ 217 ∷ 1 ∷ []) ≡ 255 ∷ 163 ∷ []
unfolding unstuffed
unstuffed-example = refl
