-- The cells of a grid make up its plane, and there are few.
use Rattle.std.proofs.Common.{◌≡◌, ℕ, ◌+◌, ◌-◌, ◌*◌, ◌<◌, ◌≤◌, ◌^◌, sym, subst, arith}
use Rattle.std.specs.Int.{div_ceil}
use Rattle.std.proofs.lemmas.Map.Keys.{any_passes_from_place}
use Rattle.std.proofs.lemmas.Nat.{mul-le}
use Rattle.plane_view.specs.declared.Rect.{Rect}
use Rattle.plane_view.specs.declared.Shape.{Shape}
use Rattle.plane_view.specs.Cuts.{part, part_count}
use Rattle.plane_view.specs.Rectangles.{HasPixel, has_pixel}
use Rattle.plane_view.specs.Shapes.{IsShape}
use Rattle.plane_view.proofs.Cuts.{one_part, part_at, part_begins, part_found, part_lies, part_non_empty, pixel_part}
use Rattle.plane_view.proofs.Pixels.{has_pixel-true}
use Rattle.stage_core.specs.Bases.{MakeUp}
use Rattle.stage_core.specs.Planes.{IsPart}
use Rattle.stage_deps.specs.Grids.{grid_cells}

pub grid_makes_up : (shape : Shape) (side : ℕ) → 0 < side → MakeUp (grid_cells shape side) shape
grid_makes_up shape side some =
    record {
      part = λ k rect at.
          let found = part_found shape side side k rect at in
          subst (λ (x : Rect). IsPart x shape) (sym found.1) (record {
            some = part_non_empty shape side side k some some found.0;
            inside = part_lies shape side side k;
          });
      covered = λ r c row col.
          let there = pixel_part shape side side r c some some row col in
          any_passes_from_place (has_pixel r c) (grid_cells shape side) there.0 (part shape side side there.0)
          (part_at shape side side there.0 there.1)
          (has_pixel-true r c (part shape side side there.0) there.2);
      apart = λ i k one other at_i at_k r c in_i in_k.
          let found_i = part_found shape side side i one at_i in
          let found_k = part_found shape side side k other at_k in
          one_part shape side side i k r c (subst (λ (x : Rect). HasPixel x r c) found_i.1 in_i)
          (subst (λ (x : Rect). HasPixel x r c) found_k.1 in_k);
    }

-- a length takes few cells
few_along : (n side : ℕ) → n ≤ 8192 → 16 ≤ side → div_ceil n side ≤ 512
few_along n side short wide =
    let few : (k : ℕ) → div_ceil n side ≡ k + 513 → ⊥ = λ k is.
    let last : 512 * side < n = part_begins n side 512 (omega arith) (omega (arith, is)) in
    omega (arith, mul-le 512 16 512 side (omega arith) wide) in
    omega (arith, few (div_ceil n side - 513))

-- a grid has few cells
pub few_cells : (shape : Shape) (side : ℕ) → IsShape shape → 16 ≤ side → part_count shape side side ≤ 2 ^ 18
few_cells shape side is wide =
    omega (
      arith,
      mul-le (div_ceil shape.rows side) (div_ceil shape.cols side) 512 512
          (few_along shape.rows side is.rows wide) (few_along shape.cols side is.cols wide),
    )
