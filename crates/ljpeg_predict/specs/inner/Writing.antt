-- Bits that are put together to stuffed bytes (ITU-T T.81, F.1.2.3), for the functions that write them.
use Rattle.std.specs.Prelude.{◌≡◌, ℕ, ◌<◌, Bool, true, List, ◌++◌, replicate}
use Rattle.binary_digits.specs.Digits.{bits_of, byte_bits}
use Rattle.ljpeg_predict.specs.Encoding.{stuffed}
use Rattle.ljpeg_predict.specs.declared.writer.Pending.{Pending}

-- the new bytes are the old ones and these bits in whole bytes, stuffed, but for those that are pending
pub record Adds (old new : List ℕ) (bits : List Bool) (left : Pending) : Type 0 where
  pub stretch : List ℕ
  pub is : new ≡ old ++ stuffed stretch
  pub digits : byte_bits stretch ++ bits_of left.held left.word ≡ bits

-- the new bytes are the old ones and these bits in whole bytes, filled with ones, stuffed
pub record AddsLast (old new : List ℕ) (bits : List Bool) : Type 0 where
  pub stretch : List ℕ
  pub is : new ≡ old ++ stuffed stretch
  pub ones : ℕ
  pub few : ones < 8
  pub digits : byte_bits stretch ≡ bits ++ replicate ones true
