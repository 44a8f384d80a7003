use Rattle.std.proofs.Common.{ℕ, arith}
use Rattle.stage_deps.specs.Cells.{no_rect}
use Rattle.region_session.proofs.planes.window_of.Goals as goal

pub returns-in-Some-clause-has : goal.returns-in-Some-clause-has
returns-in-Some-clause-has c = λ r n is_wanted inside.
    let j : ℕ = is_wanted.0 in
    let lies = c.hull.ensures.all j no_rect is_wanted.1 in
    let pixel = is_wanted.2 in
    (c.in-Some.ensures.pixels r n).1 (
      inside,
      record {
        top = omega (arith, lies.top, pixel.top);
        bottom = omega (arith, lies.bottom, pixel.bottom);
        left = omega (arith, lies.left, pixel.left);
        right =
            omega (arith, lies.right, pixel.right);
      },
    )
