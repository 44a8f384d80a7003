-- White balance and exposure (DNG 1.6, chapter 6, "Mapping Camera Color Space to CIE XYZ Space", the diagonal of the
-- camera neutral). Gains in 4096ths, exposure in 1024ths and the rounding are this project's own.
use Rattle.std.specs.Prelude.{ℕ, ◌+◌, ◌*◌, ◌/◌, ◌^◌, ◌≤◌, min, List, slice_index}
use Rattle.plane_view.specs.Plane.{Plane, sample, plane_of}

-- a gain in 4096ths
abbrev pub IsGain : ℕ → Type 0
IsGain gain = (1 ≤ gain) × (gain ≤ 1048576)

-- the gains of red, green and blue in 4096ths, and an exposure in 1024ths
pub record Balancing : Type 0 where
  pub gains : List ℕ
  pub exposure : ℕ

-- a sample times a gain and an exposure, rounded to the nearest number, a half up, and held within 65535
abbrev pub balanced_value : (gain exposure v : ℕ) → ℕ
balanced_value gain exposure v = min ((v * gain * exposure + 2 ^ 21) / 2 ^ 22) 65535

-- the balanced sample at row r, column c of plane p, from the samples by place
abbrev pub balanced_at : Balancing → (ℕ → ℕ → ℕ → ℕ) → ℕ → ℕ → ℕ → ℕ
balanced_at s at r c p = balanced_value (slice_index s.gains p) s.exposure (at r c p)

-- the balanced plane: a gain for each plane
abbrev pub balanced : Balancing → Plane → Plane
balanced s P = plane_of P.rows P.cols P.planes (balanced_at s (sample P))
