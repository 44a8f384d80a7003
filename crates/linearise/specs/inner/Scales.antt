-- Multiplying in place of dividing: this project's own.
use Rattle.std.specs.Prelude.{◌≡◌, ℕ, ◌+◌, ◌*◌, ◌/◌, ◌^◌, ◌<◌, ◌≤◌}

-- a whole number from 65535 * 2 * half / span up to one more; the scale takes the next greater one
pub record IsFactor (span half factor : ℕ) : Type 0 where
  pub low : 65535 * (2 * half) ≤ factor * span
  pub high : factor * span ≤ 65535 * (2 * half) + span

-- the two halves of the factor and the shift that stand for dividing by a span
pub record IsScale (span high low half shift : ℕ) : Type 0 where
  pub some : 1 ≤ span
  pub most : span < 2 ^ 29
  pub short : shift ≤ 27
  pub half_is : half ≡ 2 ^ (shift + 31)
  pub half_most : half ≤ 2 ^ 58
  pub wide : span * span < half
  pub factor : IsFactor span half (high * 2 ^ 32 + low)

-- the quotient that a level within the span stands for
abbrev pub part_of : (span x : ℕ) → ℕ
part_of span x = (131070 * x + span) / (2 * span)
