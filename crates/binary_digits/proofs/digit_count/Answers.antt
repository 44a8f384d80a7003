use Rattle.binary_digits.proofs.DigitLemmas.{length-bits_of, length-byte_bits}
use Rattle.binary_digits.proofs.digit_count.Goals as goal

pub returns : goal.returns
returns c = record { number = length-bits_of; bytes = length-byte_bits }
