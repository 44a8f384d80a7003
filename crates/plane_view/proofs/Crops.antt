-- Laws of crops, for callers that write a crop row by row.
use Rattle.std.proofs.Common.{◌≡◌, ℕ, ◌+◌, ◌-◌, ◌*◌, ◌<◌, ◌≤◌, List, [], ◌++◌, length, get_or, take, drop, refl, sym}
use Rattle.std.proofs.Common.{◌∙◌, ap, subst, arith, ⊎_elim}
use Rattle.std.proofs.Math.ListN.{get_or-append}
use Rattle.std.proofs.lemmas.List.{get_or-append_right, get_or-take, get_or-drop, length-take-le, length-drop}
use Rattle.std.proofs.lemmas.List.{length-append, take_all}
use Rattle.std.proofs.Math.Nat.{mul-le-mul_right}
use Rattle.std.proofs.lemmas.Bool.{cases_lt}
use Rattle.std.proofs.lemmas.List.FromFn.{take-map-range_with_len}
use Rattle.plane_view.specs.declared.Rect.{Rect}
use Rattle.plane_view.specs.Rectangles.{LiesIn, rect_of}
use Rattle.plane_view.specs.Plane.{Plane, place, sample, samples_of, IsWhole, crop}
use Rattle.plane_view.proofs.Samples.{length-samples_of, place_below, get_or-samples_of, same_samples}

-- the first rows
pub take-samples_of : (rows cols planes k : ℕ) (f : ℕ → ℕ → ℕ → ℕ) → k ≤ rows
    → take (k * (cols * planes)) (samples_of rows cols planes f) ≡ samples_of k cols planes f
unfolding samples_of
take-samples_of rows cols planes k f within =
    let inside : k * (cols * planes) ≤ rows * cols * planes = grind arith in
    let same : k * (cols * planes) ≡ k * cols * planes = omega arith in
    take-map-range_with_len _ 0 (rows * cols * planes) (k * (cols * planes)) inside
    ∙ (rw same refl)

-- one more row
pub samples_of_more : (k cols planes : ℕ) (f : ℕ → ℕ → ℕ → ℕ) (row : List ℕ) → length row ≡ cols * planes
    → ((c p : ℕ) → c < cols → p < planes → get_or row (c * planes + p) 0 ≡ f k c p) → samples_of (k + 1) cols planes f
    ≡ samples_of k cols planes f ++ row
samples_of_more k cols planes f row len each =
    sym (same_samples (k + 1) cols planes f (samples_of k cols planes f ++ row)
    (omega (arith, length-append (samples_of k cols planes f) row, length-samples_of k cols planes f))
    (λ r c p hr hc hp.
    ⊎_elim
    (λ (before : r < k).
    let at : place cols planes r c p < length (samples_of k cols planes f) =
    omega (arith, length-samples_of k cols planes f, place_below k cols planes r c p before hc hp) in
    get_or-append (samples_of k cols planes f) row 0 (place cols planes r c p) at
    ∙ get_or-samples_of k cols planes f r c p before hc hp)
    (λ (after : k ≤ r).
    let is : r ≡ k = omega arith in
    subst (λ (i : ℕ). get_or (samples_of k cols planes f ++ row) (place cols planes i c p) 0 ≡ f i c p) (sym is)
    (get_or-append_right (samples_of k cols planes f) row (k * cols * planes) (place cols planes k c p) 0
    (length-samples_of k cols planes f) (omega arith)
    ∙ (let rest : place cols planes k c p - k * cols * planes ≡ c * planes + p = omega arith in
    rw rest (each c p hc hp))))
    (cases_lt r k)))

-- how many samples a crop has
pub length-crop : (P : Plane) (rect : Rect) → length (crop P rect).samples
    ≡ (rect.bottom - rect.top) * (rect.right - rect.left) * P.planes
length-crop P rect = length-samples_of (rect.bottom - rect.top) (rect.right - rect.left) P.planes _

-- the last row of a rectangle that lies in the plane ends within the plane's samples
row_inside : (P : Plane) (rect : Rect) (k : ℕ) → IsWhole P → LiesIn rect (rect_of P) → rect.left ≤ rect.right
    → k < rect.bottom - rect.top
    → ((rect.top + k) * P.cols + rect.left) * P.planes + (rect.right - rect.left) * P.planes ≤ length P.samples
row_inside P rect k whole lies order below =
    let row : (rect.top + k + 1) * P.cols ≤ P.rows * P.cols = mul-le-mul_right P.cols (omega arith) in
    let pixels : (rect.top + k) * P.cols + rect.left + (rect.right - rect.left) ≤ P.rows * P.cols = omega arith in
    let samples : ((rect.top + k) * P.cols + rect.left + (rect.right - rect.left)) * P.planes
    ≤ P.rows * P.cols * P.planes =
    mul-le-mul_right P.planes pixels in
    omega arith

-- one more row of a crop: a part of the plane's samples
pub crop_more : (P : Plane) (rect : Rect) (k : ℕ) → IsWhole P → LiesIn rect (rect_of P) → rect.left ≤ rect.right
    → k < rect.bottom - rect.top
    → take ((k + 1) * ((rect.right - rect.left) * P.planes)) (crop P rect).samples
    ≡ take (k * ((rect.right - rect.left) * P.planes)) (crop P rect).samples
    ++ take ((rect.right - rect.left) * P.planes) (drop (((rect.top + k) * P.cols + rect.left) * P.planes) P.samples)
crop_more P rect k whole lies order below =
    let w : ℕ = rect.right - rect.left in
    let at : ℕ = ((rect.top + k) * P.cols + rect.left) * P.planes in
    let fits : at + w * P.planes ≤ length P.samples = row_inside P rect k whole lies order below in
    take-samples_of (rect.bottom - rect.top) w P.planes (k + 1) _ (omega arith)
    ∙ samples_of_more k w P.planes (λ r c p. sample P (rect.top + r) (rect.left + c) p)
    (take (w * P.planes) (drop at P.samples))
    (length-take-le (w * P.planes) (drop at P.samples) (omega (arith, length-drop at P.samples)))
    (λ c p hc hp.
    let inside : c * P.planes + p < w * P.planes =
    omega (arith, mul-le-mul_right P.planes (let next : c + 1 ≤ w = omega arith in next)) in
    get_or-take (w * P.planes) (drop at P.samples) (c * P.planes + p) 0 inside
    ∙ get_or-drop at P.samples (c * P.planes + p) 0
    ∙ (let same : at + (c * P.planes + p) ≡ place P.cols P.planes (rect.top + k) (rect.left + c) p = omega arith in
    rw same refl))
    ∙ ap (λ xs. xs ++ take (w * P.planes) (drop at P.samples))
    (sym (take-samples_of (rect.bottom - rect.top) w P.planes k _ (omega arith)))

-- all rows of a crop
pub crop_all : (P : Plane) (rect : Rect) → take ((rect.bottom - rect.top) * ((rect.right - rect.left) * P.planes))
    (crop P rect).samples ≡ (crop P rect).samples
crop_all P rect = take_all _ _ (omega (arith, length-crop P rect))

-- no row of a crop
pub crop_none : (P : Plane) (rect : Rect) → take (0 * ((rect.right - rect.left) * P.planes)) (crop P rect).samples ≡ []
crop_none P rect = let none : 0 * ((rect.right - rect.left) * P.planes) ≡ 0 = omega arith in rw none refl
