-- Laws of grown rectangles, by their pixels.
use Rattle.std.proofs.Common.{ℕ, ◌-◌, ◌↔◌, min, max, arith}
use Rattle.plane_view.specs.declared.Rect.{Rect}
use Rattle.plane_view.specs.Rectangles.{HasPixel, IsNearPixel, IsNonEmpty, grown}

-- a pixel of a grown rectangle is one of the whole, and near the pixel that stands at the nearest edges
near_of_grown : (rect whole : Rect) (by r c : ℕ) → IsNonEmpty rect → HasPixel (grown rect by whole) r c
    → HasPixel whole r c × IsNearPixel rect by r c
near_of_grown rect whole by r c some pixel =
    let i : ℕ = max rect.top (min r (rect.bottom - 1)) in
    let j : ℕ = max rect.left (min c (rect.right - 1)) in (
      record { top = omega arith; bottom = omega arith; left = omega arith; right = omega arith },
      (
        i,
        j,
        record { top = omega arith; bottom = omega arith; left = omega arith; right = omega arith },
        record { before = omega arith; after = omega arith },
        record { before = omega arith; after = omega arith },
      ),
    )

-- and the other way round
grown_of_near : (rect whole : Rect) (by r c : ℕ) → HasPixel whole r c → IsNearPixel rect by r c
    → HasPixel (grown rect by whole) r c
grown_of_near rect whole by r c inside near =
    let pixel = near.2 in
    let row = near.3 in
    let col = near.4 in
    record { top = omega arith; bottom = omega arith; left = omega arith; right = omega arith }

-- the pixels of a grown rectangle
pub grown_pixels : (rect whole : Rect) (by : ℕ) → IsNonEmpty rect → (r c : ℕ) → HasPixel (grown rect by whole) r c
    ↔ (HasPixel whole r c × IsNearPixel rect by r c)
grown_pixels rect whole by some r c =
    (near_of_grown rect whole by r c some, λ both. grown_of_near rect whole by r c both.0 both.1)
