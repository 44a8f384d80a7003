-- How large a fraction of 32-bit numbers is, rounded down.
use Rattle.std.proofs.Common.{◌^◌, ℤ, pos, negsuc, neg_ℤ, arith}
use Rattle.std.specs.Prelude.{◌≤ℤ◌, ◌<ℤ◌}
use Rattle.std.specs.Int.{int_div_euclid}
use Rattle.std.proofs.Math.Nat.{div-le_self}
use Rattle.std.proofs.lemmas.Int.{ints}
use Rattle.tiff_dirs.specs.Numbers.{IsOf32Bits}

pub quotient_high : (n d : ℤ) → IsOf32Bits n → pos 0 <ℤ d → int_div_euclid n d ≤ℤ pos (2 ^ 33)
quotient_high (pos a) (pos b) bits positive = omega (arith, ints, div-le_self a b, bits.high)
quotient_high (pos a) (negsuc b) bits positive = absurd (omega (arith, ints))
quotient_high (negsuc a) (pos b) bits positive = omega (arith, ints)
quotient_high (negsuc a) (negsuc b) bits positive = absurd (omega (arith, ints))

pub quotient_low : (n d : ℤ) → IsOf32Bits n → pos 0 <ℤ d → neg_ℤ (pos (2 ^ 33)) ≤ℤ int_div_euclid n d
quotient_low (pos a) (pos b) bits positive = omega (arith, ints)
quotient_low (pos a) (negsuc b) bits positive = absurd (omega (arith, ints))
quotient_low (negsuc a) (pos b) bits positive = omega (arith, ints, div-le_self a b, bits.low)
quotient_low (negsuc a) (negsuc b) bits positive = absurd (omega (arith, ints))
