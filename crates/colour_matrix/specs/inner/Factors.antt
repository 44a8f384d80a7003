-- Definitions for the contracts between functions of this crate: the factors of a group of samples. This is this
-- project's own.
use Rattle.colour_matrix.specs.declared.factors.Factors.{Factors}
use Rattle.colour_matrix.specs.declared.factors.Factors.TheVariants.{Gains, Digits}
use Rattle.colour_matrix.specs.Balances.{Balancing}
use Rattle.colour_matrix.specs.inner.BalanceRows.{HasShort, HasFactors}

-- the factors are those of gains and an exposure
abbrev pub AreFactors : Balancing → Factors → Type 0
AreFactors s (Gains row) = HasShort s row.gain
AreFactors s (Digits digits) = HasFactors s digits.top digits.high digits.low 384
