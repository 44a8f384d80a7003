-- Numbers in a file's byte order (TIFF 6.0, section 2, "Image File Header").
use Rattle.std.specs.Prelude.{ℕ, ◌^◌, ℤ, pos, neg_ℤ, ◌≤ℤ◌, ◌<ℤ◌, List, drop}
use Rattle.std.specs.Int.{cast_signed, w16, w32}
use Rattle.byteorder.specs.Endian.{big_number, little_number}
use Rattle.tiff_dirs.specs.declared.Order.{Order}
use Rattle.tiff_dirs.specs.declared.Order.TheVariants.{Big, Little}

-- the number in the n bytes from a place on: the least significant byte first in II, the most significant in MM
unfoldable pub number_at : Order → ℕ → List ℕ → ℕ → ℕ
number_at Little n bytes place = little_number n (drop place bytes)
number_at Big n bytes place = big_number n (drop place bytes)

-- the 16-bit number (SHORT) at a place
abbrev pub short_at : Order → List ℕ → ℕ → ℕ
short_at order bytes place = number_at order 2 bytes place

-- the 32-bit number (LONG) at a place
abbrev pub long_at : Order → List ℕ → ℕ → ℕ
long_at order bytes place = number_at order 4 bytes place

-- the 16-bit number in two's complement (SSHORT) at a place
abbrev pub signed_short_at : Order → List ℕ → ℕ → ℤ
signed_short_at order bytes place = cast_signed w16 (short_at order bytes place)

-- the 32-bit number in two's complement (SLONG) at a place
abbrev pub signed_long_at : Order → List ℕ → ℕ → ℤ
signed_long_at order bytes place = cast_signed w32 (long_at order bytes place)

-- a number of 32 bits, signed or not
pub record IsOf32Bits (n : ℤ) : Type 0 where
  pub low : neg_ℤ (pos (2 ^ 31)) ≤ℤ n
  pub high : n <ℤ pos (2 ^ 32)
