-- Bits that were taken from the data and not read yet, in the lowest bits of a number: this project's own.
use Rattle.std.specs.Prelude.{◌≡◌, ℕ, ◌-◌, ◌^◌, ◌<◌, ◌≤◌, replicate, Bool, false, List, ◌++◌}
use Rattle.binary_digits.specs.Digits.{bits_of}
use Rattle.ljpeg_huffman.specs.Differences.{data_bits}

-- The bits that are left where some are held, in the lowest bits of a number, before those of the bytes.
unfoldable pub bits_left : ℕ → ℕ → List ℕ → List Bool
bits_left held word bytes = bits_of held word ++ data_bits bytes

-- A window has the next 16 of the bits that are held, and zeros where fewer are held.
pub record IsWindow (held word window : ℕ) : Type 0 where
  pub small : window < 2 ^ 16
  pub full : 16 ≤ held → bits_of held word ≡ bits_of 16 window ++ bits_of (held - 16) word
  pub short : held < 16 → bits_of 16 window ≡ bits_of held word ++ replicate (16 - held) false
