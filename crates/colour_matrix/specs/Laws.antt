-- Laws of stages that map each pixel of three planes: this project's own.
use Rattle.std.proofs.Common.{◌≡◌, ℕ, List, ℤ, ap, arith}
use Rattle.plane_view.specs.declared.Rect.{Rect}
use Rattle.stage_core.specs.Stages.{RestsOn}
use Rattle.colour_matrix.specs.Balances.{Balancing, balanced_value, balanced_at}
use Rattle.colour_matrix.specs.Matrices.{matrixed_value, matrixed_at}
use Rattle.std.specs.Prelude.{slice_index}

-- a balanced sample rests on its own
pub balanced_rests : (s : Balancing) (planes : ℕ) (rect : Rect) → RestsOn (balanced_at s) planes rect planes rect
balanced_rests s planes rect = record {
  same = λ f g agree r c p pixel plane. ap (balanced_value (slice_index s.gains p) s.exposure)
      (agree r c p pixel plane);
}

-- a sample of a pixel that a matrix maps rests on those of the pixel
pub matrixed_rests : (s : List ℤ) (planes : ℕ) (rect : Rect) → planes ≡ 3
    → RestsOn (matrixed_at s) planes rect planes rect
matrixed_rests s planes rect three = record {
  same = λ f g agree r c p pixel plane.
      let red = agree r c 0 pixel (omega arith) in
      let green = agree r c 1 pixel (omega arith) in
      let blue = agree r c 2 pixel (omega arith) in
      λ i. matrixed_value s p (red i) (green i) (blue i);
}
