-- The samples of a rectangle of a part, row by row.
use Rattle.std.proofs.Common.{◌≡◌, ℕ, ◌+◌, ◌-◌, ◌*◌, ◌≤◌, List, [], ◌++◌, get_or, refl, sym, ◌∙◌, ap, arith}
use Rattle.plane_view.specs.declared.Rect.{Rect}
use Rattle.plane_view.specs.Plane.{samples_of}
use Rattle.plane_view.specs.Rectangles.{width}
use Rattle.plane_view.specs.Lent.{IsRowPart, Lent, sample_at}
use Rattle.plane_view.proofs.Crops.{samples_of_more}

-- the first rows of the rectangle
abbrev pub rows_of : Lent → Rect → ℕ → List ℕ
rows_of V rect k = samples_of k (width rect) V.planes (λ r c p. sample_at V (rect.top + r) (rect.left + c) p)

pub no_samples : (rows cols planes : ℕ) (f : ℕ → ℕ → ℕ → ℕ) → rows * cols * planes ≡ 0
    → samples_of rows cols planes f ≡ []
unfolding samples_of
no_samples rows cols planes f none = rw none refl

-- one row more
pub rows_more : (V : Lent) (rect : Rect) (row : ℕ) (row_part : List ℕ) → rect.top ≤ row → rect.left ≤ rect.right
    → IsRowPart row_part V row rect.left rect.right
    → rows_of V rect (row + 1 - rect.top) ≡ rows_of V rect (row - rect.top) ++ row_part
rows_more V rect row row_part below order is =
    let next : row + 1 - rect.top ≡ row - rect.top + 1 = omega arith in
    ap (rows_of V rect) next
    ∙ samples_of_more (row - rect.top) (width rect) V.planes (λ r c p. sample_at V (rect.top + r) (rect.left + c) p)
    row_part is.long
    (λ c p col plane.
    let back : rect.left + c - rect.left ≡ c = omega arith in
    let here : row ≡ rect.top + (row - rect.top) = omega arith in
    ap (λ n. get_or row_part (n * V.planes + p) 0) (sym back)
    ∙ is.samples (rect.left + c) p (omega arith) (omega arith) plane
    ∙ ap (λ r. sample_at V r (rect.left + c) p) here)
