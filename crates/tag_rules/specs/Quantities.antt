-- Fractions as whole numbers of parts. The rounding, to the nearest and up at a half, is this project's own.
use Rattle.std.specs.Prelude.{ℕ, ◌*◌, ◌<◌, ◌≤ℤ◌, length, slice_index_or, ◌&&◌, ℤ, pos, neg_ℤ, ◌+ℤ◌, ◌*ℤ◌, int_le}
use Rattle.std.specs.Prelude.{int_lt, Bool, List, map, if◌then◌else◌, Result, Ok, Err}
use Rattle.std.specs.Int.{int_div_euclid}
use Rattle.std.specs.List.{list_all}
use Rattle.tag_rules.specs.declared.faults.FrameFault.{FrameFault}
use Rattle.tag_rules.specs.declared.quantities.Scale.{Scale}

-- a numerator over a denominator in parts of one, rounded
unfoldable pub in_parts : ℕ → ℤ × ℤ → ℤ
in_parts parts q = int_div_euclid ((pos (2 * parts) *ℤ q.0) +ℤ q.1) (pos 2 *ℤ q.1)

-- whether a number of parts is not beyond the limit
unfoldable pub has : Scale → ℤ → Bool
has scale parts = int_le (neg_ℤ (pos scale.most)) parts && int_le parts (pos scale.most)

-- whether a fraction has a positive denominator and its number of parts is not beyond the limit
unfoldable pub is_on : Scale → ℤ × ℤ → Bool
is_on scale q =
    int_lt (pos 0) q.1 && has scale (in_parts scale.parts q)

-- fractions in parts, each on the scale, or a refusal
abbrev pub on_scale : Scale → FrameFault → List (ℤ × ℤ) → Result (List ℤ) FrameFault
on_scale scale fault qs =
    if list_all (is_on scale) qs then Ok (map (in_parts scale.parts) qs) else Err fault

-- levels: 256ths, within 2^24 of 0
abbrev pub level_scale : Scale
level_scale = record { parts = 256; most = 16777216 }

-- colours: 65536ths, within 2^20 of 0
abbrev pub colour_scale : Scale
colour_scale = record { parts = 65536; most = 1048576 }

-- a number on either side of 0 that is not beyond a limit
pub record IsWithin (most : ℕ) (x : ℤ) : Type 0 where
  pub low : neg_ℤ (pos most) ≤ℤ x
  pub high : x ≤ℤ pos most

-- each of some numbers
abbrev pub AreWithin : ℕ → List ℤ → Type 0
AreWithin most xs = (k : ℕ) → k < length xs → IsWithin most (slice_index_or xs k (pos 0))
