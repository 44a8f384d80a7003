-- Parts of planes have fewer than 2 ^ 32 samples.
use Rattle.std.proofs.Common.{ℕ, ◌*◌, ◌^◌, ◌<◌, ◌≤◌, arith}
use Rattle.std.proofs.Math.Nat.{mul-le-mul_right}
use Rattle.plane_view.specs.declared.Rect.{Rect}
use Rattle.plane_view.specs.declared.Shape.{Shape}
use Rattle.plane_view.specs.Rectangles.{LiesIn, area_of, height, whole_rect, width}
use Rattle.plane_view.specs.Shapes.{IsShape}

pub small_part : (rect : Rect) (s : Shape) → IsShape s → LiesIn rect (whole_rect s.rows s.cols)
    → area_of rect * s.planes < 2 ^ 32
small_part rect s is lies =
    let h : ℕ = height rect in
    let w : ℕ = width rect in
    let rows : h ≤ 8192 = omega (arith, lies.bottom, is.rows) in
    let cols : w ≤ 8192 = omega (arith, lies.right, is.cols) in
    let area : h * w ≤ 8192 * w = mul-le-mul_right w rows in
    let pixels : h * w ≤ 67108864 = omega (arith, area, cols) in
    let samples : h * w * s.planes ≤ 67108864 * s.planes = mul-le-mul_right s.planes pixels in
    omega (arith, samples, is.planes)
