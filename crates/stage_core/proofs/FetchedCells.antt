-- Cells that are fetched one after the other.
use Rattle.std.proofs.Common.{◌≡◌, ℕ, ◌+◌, ◌-◌, ◌*◌, ◌<◌, List, length, get_or, Some, slice_get, inl, inr}
use Rattle.std.proofs.Common.{refl, sym, ◌∙◌, ap, subst, arith}
use Rattle.std.proofs.Math.Nat.{sub-zero}
use Rattle.std.proofs.lemmas.Bool.{cases_lt}
use Rattle.std.proofs.lemmas.Option.{slice_get_within}
use Rattle.plane_view.specs.declared.Rect.{Rect}
use Rattle.plane_view.specs.declared.Shape.{Shape}
use Rattle.plane_view.specs.declared.tiles.TileMut.{TileMut}
use Rattle.plane_view.specs.Plane.{Plane, IsWhole, place, sample}
use Rattle.plane_view.specs.Rectangles.{HasPixel, LiesIn, area_of, whole_rect}
use Rattle.plane_view.specs.Lent.{AgreesWith, IsFull, Lent, sample_at}
use Rattle.plane_view.specs.Tiles.{SameLoan, lent_name, loan, tile_rect}
use Rattle.plane_view.proofs.Samples.{same_samples}
use Rattle.stage_core.specs.Bases.{AreCells, raised}
use Rattle.stage_core.specs.Planes.{IsPlane}
use Rattle.stage_core.proofs.CellLemmas.{cell_of_pixel}

-- the first k cells of a plane were fetched into a tile that was lent for the whole of it
pub record Fetched (P : Plane) (cells : List Rect) (first now : TileMut) (k : ℕ) : Type 0 where
  pub slice : lent_name now ≡ lent_name first
  pub rect : (loan now).rect ≡ (loan first).rect
  pub planes : (loan now).planes ≡ (loan first).planes
  pub samples : (i : ℕ) (cell : Rect) → i < k → slice_get cells i ≡ Some cell → (r c p : ℕ) → HasPixel cell r c
      → p < P.planes → sample_at (loan now) r c p ≡ sample P r c p

-- at first no cell was fetched
pub fetched_none : (P : Plane) (cells : List Rect) (t : TileMut) → Fetched P cells t t 0
fetched_none P cells t = record {
  slice = refl;
  rect = refl;
  planes = refl;
  samples = λ i cell below. absurd (let no : i < 0 = below in omega arith);
}

-- a pixel of an earlier cell isn't in this one
not_here : (cells : List Rect) (s : Shape) (i k : ℕ) (one cell : Rect) (r c : ℕ) → AreCells cells s → i < k
    → slice_get cells i ≡ Some one → slice_get cells k ≡ Some cell → HasPixel one r c → HasPixel cell r c → ⊥
not_here cells s i k one cell r c are below at here has also =
    let same : i ≡ k = are.plane.apart i k one cell at here r c has also in
    omega arith

-- one cell more
pub fetched_more : (P : Plane) (cells : List Rect) (s : Shape) (first old moved new : TileMut) (k : ℕ) (cell : Rect)
    → AreCells cells s → IsPlane P s → (loan first).rect ≡ whole_rect P.rows P.cols → (loan first).planes ≡ P.planes
    → Fetched P cells first old k → slice_get cells k ≡ Some cell → lent_name moved ≡ lent_name old
    → loan moved ≡ loan old → tile_rect moved ≡ cell → SameLoan moved new
    → AgreesWith P (loan new) (tile_rect moved) → Fetched P cells first new (k + 1)
fetched_more P cells s first old moved new k cell are plane whole planes so-far here name same-loan rect-is same
    agrees =
    let loan-rect : (loan moved).rect ≡ (loan old).rect = ap (λ (L : Lent). L.rect) same-loan in
    let loan-planes : (loan moved).planes ≡ (loan old).planes = ap (λ (L : Lent). L.planes) same-loan in
    record {
      slice = same.slice ∙ (name ∙ so-far.slice);
      rect = same.home ∙ (loan-rect ∙ so-far.rect);
      planes = same.planes ∙ (loan-planes ∙ so-far.planes);
      samples = λ i one below at r c p has plane-p.
          elim (cases_lt i k) [
            | inl earlier ↦
                let home : HasPixel (loan moved).rect r c =
                subst (λ (R : Rect). HasPixel R r c) (sym (loan-rect ∙ (so-far.rect ∙ whole)))
                (within i one at r c has) in
                let outside : HasPixel (tile_rect moved) r c → ⊥ = λ also. not_here cells s i k one cell r c are earlier
                at here has (subst (λ (R : Rect). HasPixel R r c) rect-is also) in
                let fits : p < (loan moved).planes =
                subst (λ (n : ℕ). p < n) (sym (loan-planes ∙ (so-far.planes ∙ planes))) plane-p in
                same.outside r c p home outside fits ∙ (ap (λ (L : Lent). sample_at L r c p) same-loan
                ∙ so-far.samples i one earlier at r c p has plane-p)
            | inr later ↦
                let last : i ≡ k = omega arith in
                let one-is : Some one ≡ Some cell = sym (subst (λ (n : ℕ). slice_get cells n ≡ Some one) last at)
                ∙ here in
                let cell-is : one ≡ cell = cc in
                sym (agrees.samples r c p (subst (λ (R : Rect). HasPixel R r c) (cell-is ∙ sym rect-is) has) plane-p)
          ];
    }
  where
    within : (i : ℕ) (one : Rect) → slice_get cells i ≡ Some one → (r c : ℕ) → HasPixel one r c
        → HasPixel (whole_rect P.rows P.cols) r c
    within i one at r c has =
        let part = are.plane.part i one at in
        let rows : P.rows ≡ s.rows = plane.shape.rows in
        let cols : P.cols ≡ s.cols = plane.shape.cols in
        record {
          top = omega arith;
          bottom = omega (arith, has.bottom, part.inside.bottom);
          left = omega arith;
          right = omega (arith, has.right, part.inside.right);
        }

-- all cells make up the plane
pub fetched_all : (P : Plane) (cells : List Rect) (s : Shape) (first now : TileMut) → AreCells cells s → IsPlane P s
    → (loan first).rect ≡ whole_rect P.rows P.cols → (loan first).planes ≡ P.planes
    → Fetched P cells first now (length cells) → AgreesWith P (loan now) (loan first).rect
fetched_all P cells s first now are plane whole planes all = record {
  planes = sym (all.planes ∙ planes);
  samples = λ r c p has plane-p.
      let here : HasPixel (whole_rect P.rows P.cols) r c = subst (λ (R : Rect). HasPixel R r c) whole has in
      let rows : P.rows ≡ s.rows = plane.shape.rows in
      let cols : P.cols ≡ s.cols = plane.shape.cols in
      let found = cell_of_pixel cells s r c are (omega (arith, here.bottom)) (omega (arith, here.right)) in
      sym (all.samples found.0 found.1 (slice_get_within cells found.0 found.1 found.2) found.2 r c p found.3 plane-p);
}

-- samples over the whole of a plane that agree with it are its own
whole_list : (P : Plane) (planes : ℕ) (samples : List ℕ) → IsWhole P → length samples ≡ length P.samples
    → AgreesWith P (record { rect = whole_rect P.rows P.cols; planes = planes; samples = samples })
    (whole_rect P.rows P.cols) → samples ≡ P.samples
whole_list P planes samples whole long agrees =
    same_samples P.rows P.cols P.planes (sample P) samples (long ∙ whole)
    (λ r c p hr hc hp.
    let same : place P.cols P.planes r c p ≡ place (P.cols - 0) planes (r - 0) (c - 0) p =
    ap (λ n. (r * P.cols + c) * n + p) agrees.planes ∙ simp sub-zero in
    ap (λ n. get_or samples n 0) same
    ∙ sym (agrees.samples r c p (record { top = omega arith; bottom = hr; left = omega arith; right = hc }) hp))
    ∙ sym (same_samples P.rows P.cols P.planes (sample P) P.samples whole (λ r c p hr hc hp. refl))

-- the same of a lent part that is the whole of the plane
pub whole_samples : (P : Plane) (L : Lent) → IsWhole P → L.rect ≡ whole_rect P.rows P.cols → IsFull L
    → AgreesWith P L L.rect → L.samples ≡ P.samples
whole_samples P L whole is full agrees =
    let long : length L.samples ≡ length P.samples =
    full ∙ (ap (λ (R : Rect). area_of R * L.planes) is
    ∙ (simp sub-zero (ap (λ n. P.rows * P.cols * n) (sym agrees.planes) ∙ sym whole))) in
    whole_list P L.planes L.samples whole long
    (subst (λ (R : Rect). AgreesWith P (record { rect = R; planes = L.planes; samples = L.samples }) R) is agrees)

-- the cells so far of a base were fetched into a tile, and counted
pub record FetchedSo {B : Type 0} (plane : B → Plane) (cells_of : B → List Rect) (fetches : B → ℕ) (first now : B)
    (tile_first tile_now : TileMut) (work_first work_now k : ℕ) : Type 0 where
  pub fetched : Fetched (plane first) (cells_of first) tile_first tile_now k
  pub plane_is : plane now ≡ plane first
  pub cells_are : cells_of now ≡ cells_of first
  pub work : work_now ≡ work_first + k
  pub count : fetches now ≡ raised (fetches first) k

-- a cell lies in the whole of the plane
pub cell_inside : (P : Plane) (cells : List Rect) (s : Shape) (k : ℕ) (cell whole : Rect) → AreCells cells s
    → IsPlane P s → whole ≡ whole_rect P.rows P.cols → slice_get cells k ≡ Some cell → LiesIn cell whole
cell_inside P cells s k cell whole are plane is at =
    let part = are.plane.part k cell at in
    let rows : P.rows ≡ s.rows = plane.shape.rows in
    let cols : P.cols ≡ s.cols = plane.shape.cols in
    subst (λ (R : Rect). LiesIn cell R) (sym is)
    (record {
      top = omega arith;
      bottom = omega (arith, part.inside.bottom);
      left = omega arith;
      right = omega (arith, part.inside.right);
    })

-- the rectangle of a shape is that of a plane of it
pub whole_rect_is : (P : Plane) (s : Shape) → IsPlane P s → whole_rect s.rows s.cols ≡ whole_rect P.rows P.cols
whole_rect_is P s plane = ap (λ n. whole_rect n s.cols) (sym plane.shape.rows)
    ∙ ap (λ n. whole_rect P.rows n) (sym plane.shape.cols)
