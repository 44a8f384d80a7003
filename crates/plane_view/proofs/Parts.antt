-- Laws of lent parts: the samples of a part, of its rows, and of a part of it.
use Rattle.std.proofs.Common.{◌≡◌, ℕ, ◌+◌, ◌-◌, ◌*◌, ◌<◌, ◌≤◌, List, length, get_or, take, drop, sym, ◌∙◌, ap, arith}
use Rattle.std.proofs.Math.Nat.{mul-le-mul_right}
use Rattle.std.proofs.lemmas.List.{get_or-take, get_or-drop, length-take-le, length-drop}
use Rattle.plane_view.specs.declared.Rect.{Rect}
use Rattle.plane_view.specs.Plane.{place, samples_of}
use Rattle.plane_view.specs.Rectangles.{HasPixel, LiesIn, height, width}
use Rattle.plane_view.specs.Lent.{Lent, place_in, sample_at, lent_of, part_of, HasRow, HasRowPart, IsRowPart, IsFull}
use Rattle.plane_view.proofs.Samples.{length-samples_of, get_or-samples_of, same_samples}

-- planes whose samples agree at each place have the same samples
pub samples_of_same : (rows cols planes : ℕ) (f g : ℕ → ℕ → ℕ → ℕ) → ((r c p : ℕ) → r < rows → c < cols → p < planes
    → f r c p ≡ g r c p) → samples_of rows cols planes f ≡ samples_of rows cols planes g
samples_of_same rows cols planes f g same =
    same_samples rows cols planes g (samples_of rows cols planes f) (length-samples_of rows cols planes f)
    (λ r c p hr hc hp. get_or-samples_of rows cols planes f r c p hr hc hp ∙ same r c p hr hc hp)

-- the sample of a part that is made of a function
pub lent_at : (rect : Rect) (planes : ℕ) (f : ℕ → ℕ → ℕ → ℕ) (r c p : ℕ) → HasPixel rect r c → p < planes
    → sample_at (lent_of rect planes f) r c p ≡ f r c p
lent_at rect planes f r c p pixel plane =
    let row : rect.top + (r - rect.top) ≡ r = omega arith in
    let col : rect.left + (c - rect.left) ≡ c = omega arith in
    get_or-samples_of (height rect) (width rect) planes (λ r' c' p'. f (rect.top + r') (rect.left + c') p')
    (r - rect.top) (c - rect.left) p (omega arith) (omega arith) plane
    ∙ ap (λ i. f i (rect.left + (c - rect.left)) p) row
    ∙ ap (λ i. f r i p) col

-- the sample of a part is the lender's
pub part_at : (L : Lent) (rect : Rect) (r c p : ℕ) → HasPixel rect r c → p < L.planes → sample_at (part_of L rect) r c p
    ≡ sample_at L r c p
part_at L rect r c p pixel plane = lent_at rect L.planes (sample_at L) r c p pixel plane

-- a full part is the part of it in its own rectangle
pub part_whole : (L : Lent) → IsFull L → part_of L L.rect ≡ L
part_whole L full =
    ap (λ (xs : List ℕ). record L { samples = xs })
    (sym (same_samples (height L.rect) (width L.rect) L.planes
    (λ r c p. sample_at L (L.rect.top + r) (L.rect.left + c) p) L.samples full
    (λ r c p hr hc hp.
    let row : L.rect.top + r - L.rect.top ≡ r = omega arith in
    let col : L.rect.left + c - L.rect.left ≡ c = omega arith in
    sym (ap (λ i. get_or L.samples (place (width L.rect) L.planes i (L.rect.left + c - L.rect.left) p) 0) row
    ∙ ap (λ i. get_or L.samples (place (width L.rect) L.planes r i p) 0) col))))

-- parts of a rectangle whose samples agree at its pixels are the same
pub same_parts : (rect : Rect) (planes : ℕ) (f g : ℕ → ℕ → ℕ → ℕ)
    → ((r c p : ℕ) → HasPixel rect r c → p < planes → f r c p ≡ g r c p) → lent_of rect planes f ≡ lent_of rect planes g
same_parts rect planes f g same =
    ap (λ (xs : List ℕ). let L : Lent = record { rect = rect; planes = planes; samples = xs } in L)
    (samples_of_same (height rect) (width rect) planes _ _
    (λ r c p hr hc hp. same (rect.top + r) (rect.left + c) p (record {
      top = omega arith;
      bottom = omega arith;
      left = omega arith;
      right = omega arith;
    }) hp))

-- a part of a part is a part
pub part_of_part : (L : Lent) (rect inner : Rect) → LiesIn inner rect → part_of (part_of L rect) inner ≡ part_of L inner
part_of_part L rect inner lies =
    same_parts inner L.planes _ _
    (λ r c p pixel plane. part_at L rect r c p (record {
      top = omega arith;
      bottom = omega arith;
      left = omega arith;
      right = omega arith;
    }) plane)

-- a row of a part ends within the lender's samples
pub part_row_inside : (L : Lent) (rect : Rect) (r : ℕ) → IsFull L → LiesIn rect L.rect → HasRow rect r
    → place_in L.rect L.planes r rect.left 0 + width rect * L.planes ≤ length L.samples
part_row_inside L rect r full stays row =
    let w : ℕ = width L.rect in
    let i : ℕ = r - L.rect.top in
    let j : ℕ = rect.left - L.rect.left in
    let rows : (i + 1) * w ≤ height L.rect * w = mul-le-mul_right w (omega arith) in
    let pixels : i * w + j + width rect ≤ height L.rect * w = omega arith in
    let samples : (i * w + j + width rect) * L.planes ≤ height L.rect * w * L.planes =
    mul-le-mul_right L.planes pixels in
    omega arith

-- a row's part within a lent part ends within the lender's samples
pub row_part_bound : (L : Lent) (rect : Rect) (r left right : ℕ) → IsFull L → LiesIn rect L.rect
    → HasRowPart rect r left right
    → place_in L.rect L.planes r left 0 + (right - left) * L.planes ≤ length L.samples
row_part_bound L rect r left right full lies row_part =
    part_row_inside L (record { top = r; left = left; bottom = r + 1; right = right }) r full
    (record { top = omega arith; bottom = omega arith; left = omega arith; right = omega arith })
    (record { top = omega arith; bottom = omega arith; cols = omega arith })

-- a row's part within a lent part stands among the lender's samples
pub row_part_of_lender : (L : Lent) (rect : Rect) (r left right start len : ℕ)
    → start ≡ place_in L.rect L.planes r left 0
    → len ≡ (right - left) * L.planes
    → IsFull L → LiesIn rect L.rect → HasRowPart rect r left right
    → IsRowPart (take len (drop start L.samples)) (part_of L rect) r left right
row_part_of_lender L rect r left right start len at is full lies row_part =
    let inside = row_part_bound L rect r left right full lies row_part in
    record {
      long = length-take-le len (drop start L.samples) (omega (arith, length-drop start L.samples)) ∙ is;
      samples = λ c p from to plane.
          let next : (c - left + 1) * L.planes ≤ (right - left) * L.planes = mul-le-mul_right L.planes (omega arith) in
          let col : c - L.rect.left ≡ left - L.rect.left + (c - left) = omega arith in
          let there : start + ((c - left) * L.planes + p) ≡ place_in L.rect L.planes r c p = rw col (omega arith) in
          get_or-take len (drop start L.samples) ((c - left) * L.planes + p) 0 (omega arith)
          ∙ get_or-drop start L.samples ((c - left) * L.planes + p) 0
          ∙ ap (λ n. get_or L.samples n 0) there
          ∙ sym (part_at L rect r c p (record {
            top = row_part.top;
            bottom = row_part.bottom;
            left = omega arith;
            right = omega arith;
          }) plane);
    }
