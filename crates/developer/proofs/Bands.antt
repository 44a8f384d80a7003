-- A rectangle of a developed plane that is written band by band.
use Rattle.std.proofs.Common.{◌≡◌, ℕ, ◌+◌, ◌-◌, ◌*◌, ◌^◌, ◌<◌, ◌≤◌, List, ◌++◌, length, Result, Err, refl, sym, ◌∙◌, ap}
use Rattle.std.proofs.Common.{append_assoc, arith}
use Rattle.std.proofs.lemmas.List.{append-nil}
use Rattle.plane_view.specs.Plane.{Plane, crop}
use Rattle.plane_view.specs.Rectangles.{area_of}
use Rattle.plane_view.specs.declared.Rect.{Rect}
use Rattle.stage_core.specs.Planes.{IsPart}
use Rattle.stage_core.specs.Stages.{shape_of}
use Rattle.dev_settings.specs.declared.format.Format.{Format}
use Rattle.image_out.specs.Image.{pixels_of}
use Rattle.developer.specs.inner.Developed.{IsDeveloped}
use Rattle.developer.specs.inner.Pieces.{InPieces}
use Rattle.developer.specs.inner.Writes.{Writes}
use Rattle.developer.specs.declared.writing.Stop.{Stop}
use Rattle.developer.proofs.Images.{few_samples, rows_all, rows_band, rows_left, rows_none, rows_of}
use Rattle.developer.proofs.Pieces.{pieces_end, pieces_none, pieces_same}
use Rattle.developer.proofs.Written.{writes_same, writes_stops}

-- of the heads and the rows above a row, some bytes were written, and the piece holds the others
pub record InBands {S : Type 0} (stands_for : S → List ℕ → Type 0) (faults : S → ℕ) (first now : S)
    (heads piece : List ℕ) (written : ℕ) (format : Format) (P : Plane) (rect : Rect) (top : ℕ) : Type 0 where
  pub pieces : InPieces stands_for faults first now (heads ++ rows_of format P rect (top - rect.top)) piece written
  pub room : length piece < 65536
  pub number : written + length piece ≡ length heads + 2 * ((top - rect.top) * ((rect.right - rect.left) * 3))
  pub after : rect.top ≤ top
  pub before : top ≤ rect.bottom

-- a band has few samples
few_of_band : (h w : ℕ) → h ≤ 8192 → w ≤ 8192 → 2 * (h * w * 3) ≤ 402653184
few_of_band h w rows cols = omega (arith, few_samples h w rows cols)

module _ {S : Type 0} (stands_for : S → List ℕ → Type 0) (faults : S → ℕ) (first : S) (heads : List ℕ) (format : Format)
    (P : Plane) (rect : Rect) (developed : IsDeveloped P) (within : IsPart rect (shape_of P)) where
  -- no row yet
  pub bands_none : length heads ≤ 256 → InBands stands_for faults first first heads heads 0 format P rect rect.top
  bands_none short =
      let none : rect.top - rect.top ≡ 0 = omega arith in
      record {
        pieces = pieces_same stands_for faults first first heads _ heads 0
            (sym (append-nil heads) ∙ ap (λ (bytes : List ℕ). heads ++ bytes)
            (sym (ap (rows_of format P rect) none ∙ rows_none format P rect)))
            (pieces_none stands_for faults first heads);
        room = omega arith;
        number = rw none omega arith;
        after = omega arith;
        before = omega (arith, within.some.rows);
      }

  module _ (now : S) (piece : List ℕ) (written top : ℕ) (so-far : InBands stands_for faults first now heads piece
      written format P rect top) where
    module _ (band : Rect) (left : band.left ≡ rect.left) (right : band.right ≡ rect.right) (is-top : band.top ≡ top)
        (order : band.top < band.bottom) (low : band.bottom ≤ rect.bottom) where
      -- the band lies within the plane
      pub band_within : IsPart band (shape_of P)
      band_within = record {
        some = record { rows = order; cols = omega (arith, left, right, within.some.cols) };
        inside = record {
          top = omega arith;
          bottom = omega (arith, low, within.inside.bottom);
          left = omega arith;
          right = omega (arith, right, within.inside.right);
        };
      }

      -- few bytes will be
      pub bands_fit : length heads ≤ 256 → written + length piece + 2 * (area_of band * 3) < 2 ^ 60
      bands_fit short =
          let rows : top - rect.top ≤ 8192 = omega (arith, so-far.before, within.inside.bottom, developed.rows) in
          let cols : rect.right - rect.left ≤ 8192 = omega (arith, within.inside.right, developed.cols) in
          let high : band.bottom - band.top ≤ 8192 = omega (arith, low, within.inside.bottom, developed.rows) in
          let wide : band.right - band.left ≤ 8192 = omega (arith, right, within.inside.right, developed.cols) in
          omega (
            arith,
            so-far.number,
            few_of_band (top - rect.top) (rect.right - rect.left) rows cols,
            few_of_band (band.bottom - band.top) (band.right - band.left) high wide,
          )

      -- the rows above the band, and the band
      all_rows : (heads ++ rows_of format P rect (top - rect.top)) ++ pixels_of format (crop P band).samples ≡ heads
          ++ rows_of format P rect (band.bottom - rect.top)
      all_rows =
          append_assoc heads (rows_of format P rect (top - rect.top)) (pixels_of format (crop P band).samples)
          ∙ ap (λ (bytes : List ℕ). heads ++ bytes)
          (ap (λ (n : ℕ). rows_of format P rect (n - rect.top) ++ pixels_of format (crop P band).samples) (sym is-top)
          ∙ rows_band format P rect band developed.whole within left right (omega (arith, is-top, so-far.after))
          (omega (arith, order)) low)

      -- a band more
      pub bands_more : (new : S) (held : List ℕ) (total : ℕ)
          → InPieces stands_for faults first new ((heads ++ rows_of format P rect (top - rect.top))
          ++ pixels_of format (crop P band).samples) held total
          → length held < 65536 → total + length held ≡ written + length piece + 2 * (area_of band * 3)
          → InBands stands_for faults first new heads held total format P rect band.bottom
      bands_more new held total pieces room number =
          let w : ℕ = rect.right - rect.left in
          let wide : band.right - band.left ≡ w = rw (left, right) refl in
          let high : (top - rect.top) + (band.bottom - band.top) ≡ band.bottom - rect.top =
          omega (arith, so-far.after, is-top, order) in
          let sum : (top - rect.top) * (w * 3) + (band.bottom - band.top) * w * 3 ≡ (band.bottom - rect.top) * (w * 3) =
          rw (← high) omega arith in
          let area : area_of band * 3 ≡ (band.bottom - band.top) * w * 3 =
          ap (λ (n : ℕ). (band.bottom - band.top) * n * 3) wide in
          record {
            pieces = pieces_same stands_for faults first new _ _ held total all_rows pieces;
            room = room;
            number = omega (arith, number, so-far.number, sum, area);
            after = omega (arith, so-far.after, is-top, order);
            before = low;
          }

      -- a band that wasn't written whole
      pub bands_stop : (new : S) (stop : Stop)
          → Writes {T = ℕ} stands_for faults first new ((heads ++ rows_of format P rect (top - rect.top))
          ++ pixels_of format (crop P band).samples) (λ n. n) (Err stop)
          → Writes {T = ℕ} stands_for faults first new (heads ++ pixels_of format (crop P rect).samples) (λ n. n)
          (Err stop)
      bands_stop new stop w =
          let more = rows_left format P rect (band.bottom - rect.top) in
          let whole : (heads ++ rows_of format P rect (band.bottom - rect.top)) ++ more.0 ≡ heads
          ++ pixels_of format (crop P rect).samples =
          append_assoc heads (rows_of format P rect (band.bottom - rect.top)) more.0
          ∙ ap (λ (bytes : List ℕ). heads ++ bytes) more.1 in
          writes_same stands_for faults first new _ _ (λ n. n) (Err stop) whole
          (writes_stops stands_for faults first new (heads ++ rows_of format P rect (band.bottom - rect.top)) more.0
          (λ n. n) (λ n. n) stop
          (writes_same stands_for faults first new _ _ (λ n. n) (Err stop) all_rows w))

    -- after the last band
    pub bands_end : (new : S) (result : Result ℕ Stop) → rect.bottom ≤ top
        → Writes stands_for faults first new (so-far.pieces.sent ++ piece) (λ n. n) result
        → Writes stands_for faults first new (heads ++ pixels_of format (crop P rect).samples) (λ n. n) result
    bands_end new result last w =
        let all : top - rect.top ≡ rect.bottom - rect.top = omega (arith, last, so-far.before) in
        writes_same stands_for faults first new _ _ (λ n. n) result
        (ap (λ (bytes : List ℕ). heads ++ bytes) (ap (rows_of format P rect) all ∙ rows_all format P rect))
        (pieces_end stands_for faults first now (heads ++ rows_of format P rect (top - rect.top)) piece written
        so-far.pieces new result w)
