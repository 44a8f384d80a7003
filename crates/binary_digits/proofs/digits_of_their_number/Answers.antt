use Rattle.binary_digits.proofs.DigitLemmas.{bits_of-number_of, number_of-lt}
use Rattle.binary_digits.proofs.digits_of_their_number.Goals as goal

pub returns : goal.returns
returns c = record { same = bits_of-number_of; below = number_of-lt }
