use Rattle.std.proofs.Common.{◌∙◌}
use Rattle.std.proofs.Math.Nat.{mod-eq_of_lt}
use Rattle.binary_digits.proofs.DigitLemmas.{number_of-bits_of}
use Rattle.binary_digits.proofs.number_of_its_digits.Goals as goal

pub returns : goal.returns
returns c size number below = number_of-bits_of size number ∙ mod-eq_of_lt below
