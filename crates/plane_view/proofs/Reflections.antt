-- Laws of reflection at a plane's edges.
use Rattle.std.proofs.Common.{◌≡◌, ℕ, ◌+◌, ◌<◌, ◌≤◌, ℤ, pos, negsuc, ◌+ℤ◌, ◌≤ℤ◌, refl, ap, ◌∙◌, arith}
use Rattle.std.proofs.lemmas.Bool.{lt-ltb}
use Rattle.std.proofs.lemmas.Bool.Decides.{nat_tests}
use Rattle.std.proofs.lemmas.Int.{ints}
use Rattle.plane_view.specs.declared.Rect.{Rect}
use Rattle.plane_view.specs.Rectangles.{HasPixel, grown, whole_rect}
use Rattle.plane_view.specs.Reflect.{reflected}

-- what is inside stands for itself
pub reflected_inside : (n i : ℕ) → i < n → reflected n (pos i) ≡ i
reflected_inside n i h = rw (lt-ltb i n h) refl

-- the same of a sum
pub reflected_at : (n i : ℕ) (z : ℤ) → z ≡ pos i → i < n → reflected n z ≡ i
reflected_at n i z e h = ap (reflected n) e ∙ reflected_inside n i h

-- number i is within so many of c, and one of n
pub record IsWithin (n c by i : ℕ) : Type 0 where
  pub low : c ≤ i + by
  pub high : i ≤ c + by
  pub inside : i < n

-- what is up to `by` away from c stands for something that is not farther away
pub reflected_near : (n c by : ℕ) (i : ℤ) → 4 ≤ n → c < n → by ≤ 2 → pos c ≤ℤ (i +ℤ pos by) → i ≤ℤ pos (c + by)
    → IsWithin n c by (reflected n i)
reflected_near n c by (pos i) size inside few low high =
    record {
      low = grind (arith, ints, nat_tests);
      high = grind (arith, ints, nat_tests);
      inside = grind (arith, ints, nat_tests);
    }
reflected_near n c by (negsuc i) size inside few low high =
    record { low = omega (arith, ints); high = omega (arith, ints); inside = omega (arith, ints) }

-- a pixel that is up to `by` rows and columns away from one of a rectangle is in the grown rectangle
pub pixel_within : (rect : Rect) (rows cols by r c i j : ℕ) → HasPixel rect r c → IsWithin rows r by i
    → IsWithin cols c by j → HasPixel (grown rect by (whole_rect rows cols)) i j
pixel_within rect rows cols by r c i j pixel row col =
    record { top = omega arith; bottom = omega arith; left = omega arith; right = omega arith }
