-- What a write to the samples of a part leaves: one sample, and a part of a row.
use Rattle.std.proofs.Common.{◌≡◌, ℕ, ◌+◌, ◌-◌, ◌*◌, ◌/◌, ◌%◌, ◌<◌, ◌≤◌, ◌⊎◌, inl, inr, ⊎_elim, List, ◌++◌, length}
use Rattle.std.proofs.Common.{get_or, take, drop, sym, ◌∙◌, ap, arith}
use Rattle.std.proofs.Math.ListN.{set, get_or-append}
use Rattle.std.proofs.Math.Nat.{mul-le-mul_right}
use Rattle.std.proofs.lemmas.Bool.{cases_lt}
use Rattle.std.proofs.lemmas.List.{get_or-take, get_or-drop, length-take-le, length-drop}
use Rattle.std.proofs.lemmas.List.{get_or-append_right, get_or-set_same, get_or-set_other}
use Rattle.std.proofs.lemmas.Nat.{div-mul-add, mod-mul-add}
use Rattle.std.proofs.lemmas.Slice.{between-put_mid}
use borrow.Rule.Slice.PartMut.{put_mid, post_of}
use Rattle.plane_view.specs.Tiles.{row_in}
use Rattle.plane_view.specs.inner.RowParts.{PutsRowPart}
use Rattle.plane_view.specs.declared.Rect.{Rect}
use Rattle.plane_view.specs.Plane.{place}
use Rattle.plane_view.specs.Rectangles.{HasPixel, LiesIn, height, width}
use Rattle.plane_view.specs.Lent.{Lent, place_in, sample_at, HasRow, HasRowPart, IsFull}
use Rattle.plane_view.proofs.Samples.{place_below}
use Rattle.plane_view.proofs.Parts.{part_row_inside}

-- a pixel of a part is one of the lender
pub pixel_in : (outer inner : Rect) (r c : ℕ) → LiesIn inner outer → HasPixel inner r c → HasPixel outer r c
pixel_in outer inner r c lies pixel = record {
  top = omega arith;
  bottom = omega arith;
  left = omega arith;
  right = omega arith;
}

-- a place of a full part
pub place_in_below : (L : Lent) (r c p : ℕ) → IsFull L → HasPixel L.rect r c → p < L.planes
    → place_in L.rect L.planes r c p < length L.samples
place_in_below L r c p full pixel plane =
    omega (
      arith,
      place_below (height L.rect) (width L.rect) L.planes (r - L.rect.top) (c - L.rect.left) p (omega arith)
          (omega arith) plane,
    )

-- two pixels, or two planes, are at two places
pub same_place : (cols planes r c p r' c' p' : ℕ) → c < cols → c' < cols → p < planes → p' < planes
    → place cols planes r' c' p' ≡ place cols planes r c p → (r' ≡ r) × (c' ≡ c) × (p' ≡ p)
same_place cols planes r c p r' c' p' hc hc' hp hp' same =
    let pixel : r' * cols + c' ≡ r * cols + c = sym (div-mul-add (r' * cols + c') planes p' hp')
    ∙ ap (λ n. n / planes) same ∙ div-mul-add (r * cols + c) planes p hp in (
      sym (div-mul-add r' cols c' hc') ∙ ap (λ n. n / cols) pixel ∙ div-mul-add r cols c hc,
      sym (mod-mul-add r' cols c' hc') ∙ ap (λ n. n % cols) pixel ∙ mod-mul-add r cols c hc,
      sym (mod-mul-add (r' * cols + c') planes p' hp') ∙ ap (λ n. n % planes) same
          ∙ mod-mul-add (r * cols + c) planes p hp,
    )

-- a part with other samples
abbrev pub with_samples : Lent → List ℕ → Lent
with_samples L xs = record L { samples = xs }

-- one sample is written
pub put_here : (L : Lent) (r c p v : ℕ) → IsFull L → HasPixel L.rect r c → p < L.planes
    → sample_at (with_samples L (set L.samples (place_in L.rect L.planes r c p) v)) r c p ≡ v
put_here L r c p v full pixel plane = get_or-set_same L.samples (place_in L.rect L.planes r c p) v 0
    (place_in_below L r c p full pixel plane)

-- and another one stays
pub put_elsewhere : (L : Lent) (r c p v r' c' p' : ℕ) → HasPixel L.rect r c → p < L.planes → HasPixel L.rect r' c'
    → p' < L.planes → (r' ≡ r → c' ≡ c → p' ≡ p → ⊥)
    → sample_at (with_samples L (set L.samples (place_in L.rect L.planes r c p) v)) r' c' p' ≡ sample_at L r' c' p'
put_elsewhere L r c p v r' c' p' pixel plane pixel' plane' other =
    get_or-set_other L.samples (place_in L.rect L.planes r c p) (place_in L.rect L.planes r' c' p') v 0
    (λ same.
    let parts = same_place (width L.rect) L.planes (r - L.rect.top) (c - L.rect.left) p (r' - L.rect.top)
    (c' - L.rect.left) p' (omega arith) (omega arith) plane plane' same in
    let rows : r' - L.rect.top ≡ r - L.rect.top = parts.0 in
    let cols : c' - L.rect.left ≡ c - L.rect.left = parts.1 in
    other (omega arith) (omega arith) parts.2)

-- an element before a part of a list that was written
pub before_mid : (a k : ℕ) (xs ys : List ℕ) (i : ℕ) → i < a → a ≤ length xs → get_or (put_mid a k xs ys) i 0
    ≡ get_or xs i 0
before_mid a k xs ys i below within =
    get_or-append (take a xs) (ys ++ post_of a k xs) 0 i (omega (arith, length-take-le a xs within))
    ∙ get_or-take a xs i 0 below

-- one in it
pub in_mid : (a k : ℕ) (xs ys : List ℕ) (i : ℕ) → a ≤ length xs → i < length ys → get_or (put_mid a k xs ys) (a + i) 0
    ≡ get_or ys i 0
in_mid a k xs ys i within below =
    get_or-append_right (take a xs) (ys ++ post_of a k xs) a (a + i) 0 (length-take-le a xs within) (omega arith)
    ∙ (let rest : a + i - a ≡ i = omega arith in rw rest (get_or-append ys (post_of a k xs) 0 i below))

-- and one after it
pub after_mid : (a k : ℕ) (xs ys : List ℕ) (i : ℕ) → a ≤ length xs → length ys ≡ k → a + k ≤ i
    → get_or (put_mid a k xs ys) i 0 ≡ get_or xs i 0
after_mid a k xs ys i within long above =
    get_or-append_right (take a xs) (ys ++ post_of a k xs) a i 0 (length-take-le a xs within) (omega arith)
    ∙ get_or-append_right ys (post_of a k xs) k (i - a) 0 long (omega arith)
    ∙ get_or-drop k (drop a xs) (i - a - k) 0
    ∙ get_or-drop a xs (k + (i - a - k)) 0
    ∙ (let back : a + (k + (i - a - k)) ≡ i = omega arith in ap (λ n. get_or xs n 0) back)

-- a row's part ends within the samples
pub row_part_inside : (L : Lent) (r c n : ℕ) → IsFull L → HasRowPart L.rect r c (c + n)
    → place_in L.rect L.planes r c 0 + n * L.planes ≤ length L.samples
row_part_inside L r c n full row_part =
    let w : ℕ = width L.rect in
    let i : ℕ = r - L.rect.top in
    let j : ℕ = c - L.rect.left in
    let rows : (i + 1) * w ≤ height L.rect * w = mul-le-mul_right w (omega arith) in
    let pixels : i * w + j + n ≤ height L.rect * w = omega arith in
    let samples : (i * w + j + n) * L.planes ≤ height L.rect * w * L.planes = mul-le-mul_right L.planes pixels in
    omega arith

-- the samples of a row's part after it was written
abbrev pub with_row_part : Lent → (r c n : ℕ) → List ℕ → Lent
with_row_part L r c n ws = with_samples L (put_mid (place_in L.rect L.planes r c 0) (n * L.planes) L.samples ws)

-- a sample of the part of the row that was written
pub row_part_here : (L : Lent) (r c n : ℕ) (ws : List ℕ) (c' p : ℕ) → IsFull L → HasRowPart L.rect r c (c + n)
    → length ws ≡ n * L.planes → c ≤ c' → c' < c + n → p < L.planes
    → sample_at (with_row_part L r c n ws) r c' p ≡ get_or ws ((c' - c) * L.planes + p) 0
row_part_here L r c n ws c' p full row_part long from to plane =
    let a : ℕ = place_in L.rect L.planes r c 0 in
    let next : (c' - c + 1) * L.planes ≤ n * L.planes = mul-le-mul_right L.planes (omega arith) in
    let col : c' - L.rect.left ≡ c - L.rect.left + (c' - c) = omega arith in
    let at : place_in L.rect L.planes r c' p ≡ a + ((c' - c) * L.planes + p) = rw col (omega arith) in
    ap (λ i. get_or (put_mid a (n * L.planes) L.samples ws) i 0) at
    ∙ in_mid a (n * L.planes) L.samples ws ((c' - c) * L.planes + p)
    (omega (arith, row_part_inside L r c n full row_part))
    (omega arith)

-- a place of an earlier row, or of an earlier column of the row
place_before : (cols planes r c p r' c' : ℕ) → c < cols → p < planes → (r < r') ⊎ ((r ≡ r') × (c < c'))
    → place cols planes r c p < place cols planes r' c' 0
place_before cols planes r c p r' c' hc hp order =
    let pixel : r * cols + c + 1 ≤ r' * cols + c' =
    ⊎_elim
    (λ (earlier : r < r'). let rows : (r + 1) * cols ≤ r' * cols = mul-le-mul_right cols (omega arith) in omega arith)
    (λ (same : (r ≡ r') × (c < c')). let row : r * cols ≡ r' * cols = ap (λ n. n * cols) same.0 in
    let col : c < c' = same.1 in omega arith) order in
    let samples : (r * cols + c + 1) * planes ≤ (r' * cols + c') * planes = mul-le-mul_right planes pixel in
    omega arith

-- a place of a later row, or of a later column of the row
place_after : (cols planes r c n r' c' p' : ℕ) → c + n ≤ cols → (r < r') ⊎ ((r ≡ r') × (c + n ≤ c'))
    → place cols planes r c 0 + n * planes ≤ place cols planes r' c' p'
place_after cols planes r c n r' c' p' hc order =
    let pixel : r * cols + c + n ≤ r' * cols + c' =
    ⊎_elim
    (λ (later : r < r'). let rows : (r + 1) * cols ≤ r' * cols = mul-le-mul_right cols (omega arith) in omega arith)
    (λ (same : (r ≡ r') × (c + n ≤ c')). let row : r * cols ≡ r' * cols = ap (λ n. n * cols) same.0 in
    let col : c + n ≤ c' = same.1 in omega arith) order in
    let samples : (r * cols + c + n) * planes ≤ (r' * cols + c') * planes = mul-le-mul_right planes pixel in
    omega arith

-- another sample stays
pub row_part_elsewhere : (L : Lent) (r c n : ℕ) (ws : List ℕ) (r' c' p' : ℕ) → IsFull L → HasRowPart L.rect r c (c + n)
    → length ws ≡ n * L.planes → HasPixel L.rect r' c' → p' < L.planes → (r' ≡ r → c ≤ c' → c' < c + n → ⊥)
    → sample_at (with_row_part L r c n ws) r' c' p' ≡ sample_at L r' c' p'
row_part_elsewhere L r c n ws r' c' p' full row_part long pixel plane other =
    let w : ℕ = width L.rect in
    let a : ℕ = place_in L.rect L.planes r c 0 in
    let fits : a + n * L.planes ≤ length L.samples = row_part_inside L r c n full row_part in
    let before : place_in L.rect L.planes r' c' p' < a → sample_at (with_row_part L r c n ws) r' c' p'
    ≡ sample_at L r' c' p' =
    λ below. before_mid a (n * L.planes) L.samples ws (place_in L.rect L.planes r' c' p') below (omega arith) in
    let after : a + n * L.planes ≤ place_in L.rect L.planes r' c' p' → sample_at (with_row_part L r c n ws) r' c' p'
    ≡ sample_at L r' c' p' =
    λ above. after_mid a (n * L.planes) L.samples ws (place_in L.rect L.planes r' c' p') (omega arith) long above in
    let i : ℕ = r - L.rect.top in
    let j : ℕ = c - L.rect.left in
    let i' : ℕ = r' - L.rect.top in
    let j' : ℕ = c' - L.rect.left in
    ⊎_elim
    (λ (earlier : r' < r). before (place_before w L.planes i' j' p' i j (omega arith) plane (inl (omega arith))))
    (λ (not_earlier : r ≤ r').
    ⊎_elim
    (λ (later : r < r'). after (place_after w L.planes i j n i' j' p' (omega arith) (inl (omega arith))))
    (λ (not_later : r' ≤ r).
    ⊎_elim
    (λ (left : c' < c). before (place_before w L.planes i' j' p' i j (omega arith) plane
    (inr (omega arith, omega arith))))
    (λ (from : c ≤ c').
    ⊎_elim
    (λ (inside : c' < c + n). absurd (other (omega arith) from inside))
    (λ (right : c + n ≤ c'). after (place_after w L.planes i j n i' j' p' (omega arith)
    (inr (omega arith, omega arith))))
    (cases_lt c' (c + n)))
    (cases_lt c' c))
    (cases_lt r r'))
    (cases_lt r' r)

-- a part of a row of what is lent is one of the lender
pub row_part_in : (outer inner : Rect) (r left right : ℕ) → LiesIn inner outer → HasRowPart inner r left right
    → HasRowPart outer r left (left + (right - left))
row_part_in outer inner r left right lies row_part = record {
  top = omega arith;
  bottom = omega arith;
  left = omega arith;
  order = omega arith;
  right = omega arith;
}

-- a row's part that is written in what is lent leaves what is outside
pub row_part_outside : (L : Lent) (rect : Rect) (r left right : ℕ) (ws : List ℕ) → IsFull L → LiesIn rect L.rect
    → HasRowPart rect r left right → length ws ≡ (right - left) * L.planes
    → (r' c p : ℕ) → HasPixel L.rect r' c → (HasPixel rect r' c → ⊥) → p < L.planes
    → sample_at (with_row_part L r left (right - left) ws) r' c p ≡ sample_at L r' c p
row_part_outside L rect r left right ws full lies row_part long r' c p pixel out plane =
    row_part_elsewhere L r left (right - left) ws r' c p full (row_part_in L.rect rect r left right lies row_part) long
    pixel plane
    (λ row from to. out (record { top = omega arith; bottom = omega arith; left = omega arith; right = omega arith }))

-- what a row's part that is written in what is lent leaves
pub row_part_put : (L : Lent) (rect : Rect) (r left right : ℕ) (ws : List ℕ) → IsFull L → LiesIn rect L.rect
    → HasRowPart rect r left right → length ws ≡ (right - left) * L.planes
    → PutsRowPart L (with_row_part L r left (right - left) ws) r left right ws
row_part_put L rect r left right ws full lies row_part long =
    let whole : HasRowPart L.rect r left (left + (right - left)) = row_part_in L.rect rect r left right lies row_part in
    record {
      written = λ c p from to plane. row_part_here L r left (right - left) ws c p full whole long from (omega arith)
          plane;
      others = λ r' c p pixel plane other.
          row_part_elsewhere L r left (right - left) ws r' c p full whole long pixel plane
          (λ row from to. other row from (omega arith));
    }

-- a whole list is where it was written
between_mid : (a k : ℕ) (xs ys : List ℕ) → a ≤ length xs → length ys ≡ k → take k (drop a (put_mid a k xs ys)) ≡ ys
between_mid a k xs ys within long =
    let back : a + k - a ≡ k = omega arith in
    rw back at (between-put_mid a k xs ys (a + k) within (rw back long))

-- the row that was written
pub row_written : (L : Lent) (rect : Rect) (r : ℕ) (ws : List ℕ) → IsFull L → LiesIn rect L.rect → HasRow rect r
    → length ws ≡ width rect * L.planes
    → row_in (with_row_part L r rect.left (rect.right - rect.left) ws) rect r ≡ ws
row_written L rect r ws full lies row long =
    let a : ℕ = place_in L.rect L.planes r rect.left 0 in
    let row_part : HasRowPart L.rect r rect.left (rect.left + width rect) = record {
      top = omega arith;
      bottom = omega arith;
      left = omega arith;
      order = omega arith;
      right = omega arith;
    } in
    let fits : a + width rect * L.planes ≤ length L.samples = row_part_inside L r rect.left (width rect) full
    row_part in
    between_mid a (width rect * L.planes) L.samples ws (omega arith) long

-- a sample of a row of a rectangle
pub row_in_at : (L : Lent) (rect : Rect) (r c p : ℕ) → LiesIn rect L.rect → HasPixel rect r c → p < L.planes
    → get_or (row_in L rect r) ((c - rect.left) * L.planes + p) 0 ≡ sample_at L r c p
row_in_at L rect r c p lies pixel plane =
    let w : ℕ = width rect in
    let j : ℕ = c - rect.left in
    let at : ℕ = place_in L.rect L.planes r rect.left 0 in
    let next : (j + 1) * L.planes ≤ w * L.planes = mul-le-mul_right L.planes (omega arith) in
    let col : c - L.rect.left ≡ rect.left - L.rect.left + j = omega arith in
    let there : at + (j * L.planes + p) ≡ place_in L.rect L.planes r c p = rw col (omega arith) in
    get_or-take (w * L.planes) (drop at L.samples) (j * L.planes + p) 0 (omega arith)
    ∙ get_or-drop at L.samples (j * L.planes + p) 0
    ∙ ap (λ n. get_or L.samples n 0) there

-- how long a row of a rectangle is
pub length-row_in : (L : Lent) (rect : Rect) (r : ℕ) → IsFull L → LiesIn rect L.rect → HasRow rect r
    → length (row_in L rect r) ≡ width rect * L.planes
length-row_in L rect r full lies row =
    let at : ℕ = place_in L.rect L.planes r rect.left 0 in
    length-take-le (width rect * L.planes) (drop at L.samples)
    (omega (arith, length-drop at L.samples, part_row_inside L rect r full lies row))
