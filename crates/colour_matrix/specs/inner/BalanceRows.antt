-- Definitions for the contracts between functions of this crate: rows of balanced samples, the three planes of a pixel
-- side by side. This is this project's own.
use Rattle.std.specs.Prelude.{◌≡◌, ℕ, ◌*◌, ◌/◌, ◌%◌, ◌^◌, ◌<◌, ◌≤◌, List, length, slice_index}
use Rattle.colour_matrix.specs.Balances.{Balancing, balanced_value}

-- gain times exposure of the plane of sample i
abbrev pub factor_at : Balancing → ℕ → ℕ
factor_at s i = slice_index s.gains (i % 3) * s.exposure

-- the digits of a factor: what is above 30 bits, scaled by 2^8, the 15 bits below, and the 15 lowest
pub record AreDigits (factor t h l : ℕ) : Type 0 where
  pub top : t ≡ factor / 2 ^ 30 * 256
  pub high : h ≡ factor / 2 ^ 15 % 2 ^ 15
  pub low : l ≡ factor % 2 ^ 15

-- the digits of the first n factors of a group
abbrev pub HasFactors : Balancing → (tops highs lows : List ℕ) → ℕ → Type 0
HasFactors s tops highs lows n =
    (i : ℕ) → i < n → AreDigits (factor_at s i) (slice_index tops i) (slice_index highs i) (slice_index lows i)

-- the products of a sample and the digits of a group have 32 bits
pub record AreSmall (tops highs lows : List ℕ) : Type 0 where
  pub top : (i : ℕ) → i < 384 → slice_index tops i ≤ 16384
  pub high : (i : ℕ) → i < 384 → slice_index highs i < 2 ^ 15
  pub low : (i : ℕ) → i < 384 → slice_index lows i < 2 ^ 15

-- the gains of a group, at an exposure of 1
pub record HasShort (s : Balancing) (row : List ℕ) : Type 0 where
  pub exposure : s.exposure ≡ 1024
  pub gains : (i : ℕ) → i < 384 → slice_index row i ≡ slice_index s.gains (i % 3)

-- the first n samples of a row are balanced
abbrev pub HasBalanced : Balancing → (from out : List ℕ) → ℕ → Type 0
HasBalanced s from out n =
    (i : ℕ) → i < n → slice_index out i ≡ balanced_value (slice_index s.gains (i % 3)) s.exposure (slice_index from i)

-- each sample of a row is balanced
abbrev pub AreBalanced : Balancing → (from out : List ℕ) → Type 0
AreBalanced s from out = HasBalanced s from out (length from)
