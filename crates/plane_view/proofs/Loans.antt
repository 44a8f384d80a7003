-- Laws of tiles: one write after another, row after row, and the end of a loan.
use Rattle.std.proofs.Common.{◌≡◌, ℕ, ◌+◌, ◌-◌, ◌*◌, ◌<◌, ◌≤◌, ⊎_elim, get_or, refl, sym, ◌∙◌, ap, subst, arith}
use Rattle.std.proofs.lemmas.Bool.{cases_lt}
use Rattle.plane_view.specs.declared.Rect.{Rect}
use Rattle.plane_view.specs.declared.tiles.TileMut.{TileMut}
use Rattle.plane_view.specs.Rectangles.{HasPixel}
use Rattle.plane_view.specs.Lent.{Lent, sample_at, lent_of}
use Rattle.plane_view.specs.Rows.{HasSamples}
use Rattle.plane_view.proofs.Agreement.{part_of_function}
use Rattle.plane_view.specs.Tiles.{loan, tile_rect, row_in, KeepsOtherRows, SameLoan}
use Rattle.plane_view.proofs.Writes.{pixel_in, row_in_at}

-- nothing is written
pub same_loan : (t : TileMut) → SameLoan t t
same_loan t = record { slice = refl; home = refl; planes = refl; rect = refl; outside = λ r c p pixel out plane. refl }

-- one write after another
pub then_loan : (s t u : TileMut) → SameLoan s t → SameLoan t u → SameLoan s u
then_loan s t u first second =
    record {
      slice = second.slice ∙ first.slice;
      home = second.home ∙ first.home;
      planes = second.planes ∙ first.planes;
      rect = second.rect ∙ first.rect;
      outside = λ r c p pixel out plane.
          second.outside r c p (subst (λ (x : Rect). HasPixel x r c) (sym first.home) pixel)
          (λ inside. out (subst (λ (x : Rect). HasPixel x r c) first.rect inside))
          (subst (λ (n : ℕ). p < n) (sym first.planes) plane)
          ∙ first.outside r c p pixel out plane;
    }

-- one more row: r has the samples f r c p, and so have the rows above it
pub rows_more : (old new : TileMut) (r : ℕ) (f : ℕ → ℕ → ℕ → ℕ)
    → SameLoan old new → KeepsOtherRows (loan old) (loan new) (tile_rect old) r
    → ((c p : ℕ) → HasPixel (tile_rect old) r c → p < (loan old).planes
    → get_or (row_in (loan new) (tile_rect new) r) ((c - (tile_rect old).left) * (loan old).planes + p) 0 ≡ f r c p)
    → ((r' c p : ℕ) → HasPixel (tile_rect old) r' c → r' < r → p < (loan old).planes
    → sample_at (loan old) r' c p ≡ f r' c p)
    → (r' c p : ℕ) → HasPixel (tile_rect old) r' c → r' < r + 1 → p < (loan old).planes
    → sample_at (loan new) r' c p ≡ f r' c p
rows_more old new r f same others row earlier r' c p pixel below plane =
    ⊎_elim
    (λ (above : r' < r).
    others r' c p (pixel_in (loan old).rect (tile_rect old) r' c old.inside pixel) plane (λ is inside. omega arith)
    ∙ earlier r' c p pixel above plane)
    (λ (from : r ≤ r').
    let is : r' ≡ r = omega arith in
    let here : HasPixel (tile_rect old) r c = subst (λ (i : ℕ). HasPixel (tile_rect old) i c) is pixel in
    let now_here : HasPixel (tile_rect new) r c = subst (λ (x : Rect). HasPixel x r c) (sym same.rect) here in
    let now_plane : p < (loan new).planes = subst (λ (n : ℕ). p < n) (sym same.planes) plane in
    ap (λ i. sample_at (loan new) i c p) is
    ∙ sym (row_in_at (loan new) (tile_rect new) r c p new.inside now_here now_plane)
    ∙ ap (λ (x : Rect). get_or (row_in (loan new) (tile_rect new) r) ((c - x.left) * (loan new).planes + p) 0) same.rect
    ∙ ap (λ n. get_or (row_in (loan new) (tile_rect new) r) ((c - (tile_rect old).left) * n + p) 0) same.planes
    ∙ row c p here plane
    ∙ ap (λ i. f i c p) (sym is))
    (cases_lt r' r)

-- the same in a loop that began with the tile `first`
pub rows_step : (first old new : TileMut) (r : ℕ) (f : ℕ → ℕ → ℕ → ℕ)
    → SameLoan first old → SameLoan old new → KeepsOtherRows (loan old) (loan new) (tile_rect old) r
    → ((c p : ℕ) → HasPixel (tile_rect first) r c → p < (loan first).planes
    → get_or (row_in (loan new) (tile_rect old) r) ((c - (tile_rect first).left) * (loan first).planes + p) 0
    ≡ f r c p)
    → ((r' c p : ℕ) → HasPixel (tile_rect first) r' c → r' < r → p < (loan first).planes
    → sample_at (loan old) r' c p ≡ f r' c p)
    → (r' c p : ℕ) → HasPixel (tile_rect first) r' c → r' < r + 1 → p < (loan first).planes
    → sample_at (loan new) r' c p ≡ f r' c p
rows_step first old new r f begun same others row earlier r' c p pixel below plane =
    let at_first : (i j : ℕ) → HasPixel (tile_rect old) i j → HasPixel (tile_rect first) i j =
    λ i j here. subst (λ (x : Rect). HasPixel x i j) begun.rect here in
    let plane_first : (q : ℕ) → q < (loan old).planes → q < (loan first).planes =
    λ q here. subst (λ (n : ℕ). q < n) begun.planes here in
    rows_more old new r f same others
    (λ j q here plane_here.
    ap (λ (x : Rect). get_or (row_in (loan new) x r) ((j - (tile_rect old).left) * (loan old).planes + q) 0) same.rect
    ∙ ap (λ (x : Rect). get_or (row_in (loan new) (tile_rect old) r) ((j - x.left) * (loan old).planes + q) 0)
    begun.rect
    ∙ ap (λ n. get_or (row_in (loan new) (tile_rect old) r) ((j - (tile_rect first).left) * n + q) 0) begun.planes
    ∙ row j q (at_first r j here) (plane_first q plane_here))
    (λ i j q here above plane_here. earlier i j q (at_first i j here) above (plane_first q plane_here))
    r' c p (subst (λ (x : Rect). HasPixel x r' c) (sym begun.rect) pixel) below
    (subst (λ (n : ℕ). p < n) (sym begun.planes) plane)

-- a slice that was lent whole, and whose rows were written, has the samples f r c p
pub slice_written : (f : ℕ → ℕ → ℕ → ℕ) (first now : TileMut) (L : Lent) → loan first ≡ L → tile_rect first ≡ L.rect
    → SameLoan first now → HasSamples f (loan now) (tile_rect first)
    → (loan now).samples ≡ (lent_of L.rect L.planes f).samples
slice_written f first now L lent is same has =
    let home : (loan now).rect ≡ L.rect = same.home ∙ ap (λ (V : Lent). V.rect) lent in
    let planes : (loan now).planes ≡ L.planes = same.planes ∙ ap (λ (V : Lent). V.planes) lent in
    let here : HasSamples f (loan now) (loan now).rect =
    subst (λ (x : Rect). HasSamples f (loan now) x) (is ∙ sym home) has in
    ap (λ (V : Lent). V.samples) (part_of_function f (loan now) now.long here)
    ∙ ap (λ (x : Rect). (lent_of x (loan now).planes f).samples) home
    ∙ ap (λ (n : ℕ). (lent_of L.rect n f).samples) planes
