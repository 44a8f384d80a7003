-- How long a number in decimal is, for callers that show that a line has room. It is a law of std's `decimal`.
use Rattle.std.proofs.Common.{ℕ, ◌^◌, ◌<◌, ◌≤◌, length, rules}
use Rattle.std.specs.Fmt.{decimal}
use Rattle.std.proofs.lemmas.Fmt.{length-decimal-le}

-- a number of 32 bits has at most ten digits
pub decimal_within_ten : (n : ℕ) → n < 2 ^ 32 → length (decimal n) ≤ 10
decimal_within_ten n small = search (rules, length-decimal-le 10)
