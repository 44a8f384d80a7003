-- After the rows above r, those rows hold what each call left there.
use Rattle.std.proofs.Common.{◌≡◌, ℕ, ◌<◌}
use Rattle.plane_view.specs.Rectangles.{HasPixel}
use Rattle.plane_view.specs.Rows.{WritesRows}
use Rattle.plane_view.specs.Lent.{sample_at}
use Rattle.plane_view.specs.Tiles.{loan, tile_rect, SameLoan}
use Rattle.plane_view.proofs.tiles.TileMut.write_rows.Given as goal

abbrev pub invariant-loop-r : goal.invariant-loop-r
invariant-loop-r g l = record {
  same : SameLoan l.initial.self l.self;
  rows : (f : ℕ → ℕ → ℕ → ℕ) → WritesRows (λ r old new. goal.F-post g l.write r old tt new) (tile_rect l.initial.self)
      (loan l.initial.self).planes f → (r c p : ℕ) → HasPixel (tile_rect l.initial.self) r c → r < l.r-counter
      → p < (loan l.initial.self).planes → sample_at (loan l.self) r c p ≡ f r c p;
}
