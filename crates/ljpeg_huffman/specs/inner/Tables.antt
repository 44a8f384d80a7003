-- What a table's lengths and values hold, and the range of the bits that begin with a code word (ITU-T T.81, Annex C).
use Rattle.std.specs.Prelude.{◌≡◌, ℕ, ◌+◌, ◌-◌, ◌*◌, ◌^◌, ◌≤◌, Bool, List, length, All, sum}
use Rattle.binary_digits.specs.Digits.{number_of}
use Rattle.ljpeg_huffman.specs.Words.{space_from}

-- What lengths and values make a table: all code words fit their lengths, and each value is a category.
pub record IsTable (counts values : List ℕ) : Type 0 where
  pub lengths : length counts ≡ 16
  pub total : sum counts ≤ length values
  pub fits : space_from 1 counts ≤ 2 ^ 16
  pub categories : All (λ v. v ≤ 16) values

-- One more than the greatest number of 16 bits that begins with a code word of at most 16 bits.
abbrev pub high_end : List Bool → ℕ
high_end word = (number_of word + 1) * 2 ^ (16 - length word)
