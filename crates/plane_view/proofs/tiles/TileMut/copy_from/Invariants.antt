-- After the rows below r, the pixels that are in both and lie in those rows have the view's samples, and the others
-- stay.
use Rattle.std.proofs.Common.{◌≡◌, ℕ, ◌<◌}
use Rattle.plane_view.specs.Rectangles.{HasPixel}
use Rattle.plane_view.specs.Lent.{sample_at}
use Rattle.plane_view.specs.Tiles.{loan, tile_rect, SameLoan}
use Rattle.plane_view.proofs.tiles.TileMut.copy_from.Given as goal

abbrev pub invariant-loop-r : goal.invariant-loop-r
invariant-loop-r l = record {
  same : SameLoan l.initial.self l.self;
  copied : (r c p : ℕ) → HasPixel (tile_rect l.initial.self) r c → HasPixel l.from.rect r c → r < l.r
      → p < (loan l.initial.self).planes → sample_at (loan l.self) r c p ≡ sample_at l.from r c p;
  others : (r c p : ℕ) → HasPixel (loan l.initial.self).rect r c
      → (HasPixel (tile_rect l.initial.self) r c → HasPixel l.from.rect r c → r < l.r → ⊥)
      → p < (loan l.initial.self).planes → sample_at (loan l.self) r c p ≡ sample_at (loan l.initial.self) r c p;
}
