use Rattle.binary_digits.proofs.DigitLemmas.{bits_of-split}
use Rattle.binary_digits.proofs.upper_digits_first.Goals as goal

pub returns : goal.returns
returns c = bits_of-split
