-- The test of a pixel.
use Rattle.std.proofs.Common.{◌≡◌, ℕ, true, refl, arith}
use Rattle.std.proofs.lemmas.Bool.{le-leb, lt-ltb}
use Rattle.std.proofs.lemmas.Bool.Decides.{nat_tests}
use Rattle.plane_view.specs.declared.Rect.{Rect}
use Rattle.plane_view.specs.Rectangles.{HasPixel, has_pixel}

pub has_pixel-true : (r c : ℕ) (rect : Rect) → HasPixel rect r c → has_pixel r c rect ≡ true
has_pixel-true r c rect h =
    rw (le-leb rect.top r h.top, lt-ltb r rect.bottom h.bottom, le-leb rect.left c h.left, lt-ltb c rect.right h.right)
    refl

pub pixel_of_test : (r c : ℕ) (rect : Rect) → has_pixel r c rect ≡ true → HasPixel rect r c
pixel_of_test r c rect e = record {
  top = grind (arith, nat_tests);
  bottom = grind (arith, nat_tests);
  left = grind (arith, nat_tests);
  right = grind (arith, nat_tests);
}
