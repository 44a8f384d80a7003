-- The bytes of an image, row by row.
use Rattle.std.proofs.Common.{◌≡◌, ℕ, zero, suc, ◌+◌, ◌*◌, ◌-◌, ◌≤◌, List, [], ◌++◌, length, take, drop, Option, None}
use Rattle.std.proofs.Common.{Some, refl, sym, ◌∙◌, ap, append_assoc, arith}
use Rattle.std.proofs.lemmas.List.{append-nil, take-append-drop}
use Rattle.std.proofs.Math.Nat.{mul-le-mul_right}
use Rattle.plane_view.specs.Plane.{Plane, IsWhole, crop}
use Rattle.plane_view.specs.Rectangles.{LiesIn, rect_of}
use Rattle.plane_view.specs.declared.Rect.{Rect}
use Rattle.plane_view.proofs.Crops.{crop_all, crop_more, crop_none, length-crop}
use Rattle.stage_core.specs.Planes.{IsPart}
use Rattle.stage_core.specs.Stages.{shape_of}
use Rattle.dev_settings.specs.declared.format.Format.{Format}
use Rattle.dev_settings.specs.declared.format.Format.TheVariants.{Ppm, Tiff}
use Rattle.image_out.specs.Image.{head_of, pixels_of, reply_head_of}
use Rattle.image_out.proofs.ImageLaws.{length-image_of, pixels_of-append}
use Rattle.developer.specs.inner.Developed.{IsDeveloped}
use Rattle.developer.specs.Replies.{image, image_reply, no_region, region_reply}

-- the bytes of the first k rows of a crop
pub rows_of : Format → Plane → Rect → ℕ → List ℕ
rows_of format P rect k = pixels_of format (take (k * ((rect.right - rect.left) * P.planes)) (crop P rect).samples)

-- no row
pub rows_none : (format : Format) (P : Plane) (rect : Rect) → rows_of format P rect 0 ≡ []
unfolding rows_of
rows_none Ppm P rect = ap (pixels_of Ppm) (crop_none P rect)
rows_none Tiff P rect = ap (pixels_of Tiff) (crop_none P rect)

-- all rows
pub rows_all : (format : Format) (P : Plane) (rect : Rect) → rows_of format P rect (rect.bottom - rect.top)
    ≡ pixels_of format (crop P rect).samples
unfolding rows_of
rows_all format P rect = ap (pixels_of format) (crop_all P rect)

-- rows of a crop, and then those of a rectangle right below them
crop_then : (P : Plane) (rect band : Rect) (k j : ℕ) → IsWhole P → LiesIn rect (rect_of P) → rect.left ≤ rect.right
    → band.left ≡ rect.left → band.right ≡ rect.right → rect.top + k ≡ band.top
    → band.bottom ≤ rect.bottom → j ≤ band.bottom - band.top
    → take ((k + j) * ((rect.right - rect.left) * P.planes)) (crop P rect).samples
    ≡ take (k * ((rect.right - rect.left) * P.planes)) (crop P rect).samples
    ++ take (j * ((band.right - band.left) * P.planes)) (crop P band).samples
crop_then P rect band k zero whole lies order left right top low few =
    ap (λ (n : ℕ). take (n * ((rect.right - rect.left) * P.planes)) (crop P rect).samples)
    (let none : k + zero ≡ k = omega arith in none)
    ∙ (sym (append-nil (take (k * ((rect.right - rect.left) * P.planes)) (crop P rect).samples))
    ∙ ap (λ (xs : List ℕ). take (k * ((rect.right - rect.left) * P.planes)) (crop P rect).samples ++ xs)
    (sym (crop_none P band)))
crop_then P rect band k (suc j) whole lies order left right top low few =
    let w : ℕ = (rect.right - rect.left) * P.planes in
    let inside : LiesIn band (rect_of P) = record {
      top = omega arith;
      bottom = omega (arith, low, lies.bottom);
      left = omega arith;
      right = omega (arith, right, lies.right);
    } in
    let same : (band.right - band.left) * P.planes ≡ w = rw (left, right) refl in
    let next : k + suc j ≡ k + j + 1 = omega arith in
    let more = crop_more P rect (k + j) whole lies order (omega (arith, top, low, few)) in
    let band_more = crop_more P band j whole inside (omega (arith, left, right, order)) (omega (arith, few)) in
    let row : List ℕ = take w (drop (((rect.top + (k + j)) * P.cols + rect.left) * P.planes) P.samples) in
    let there : take ((band.right - band.left) * P.planes) (drop (((band.top + j) * P.cols + band.left) * P.planes)
    P.samples) ≡ row =
    ap (λ (n : ℕ). take n (drop (((band.top + j) * P.cols + band.left) * P.planes) P.samples)) same
    ∙ ap (λ (n : ℕ). take w (drop n P.samples)) (let at : ((band.top + j) * P.cols + band.left) * P.planes
    ≡ ((rect.top + (k + j)) * P.cols + rect.left) * P.planes = rw (left, ← top) omega arith in at) in
    ap (λ (n : ℕ). take (n * w) (crop P rect).samples) next
    ∙ (more
    ∙ (ap (λ (xs : List ℕ). xs ++ row) (crop_then P rect band k j whole lies order left right top low
    (omega (arith, few)))
    ∙ (append_assoc (take (k * w) (crop P rect).samples) (take (j * ((band.right - band.left) * P.planes))
    (crop P band).samples) row
    ∙ ap (λ (xs : List ℕ). take (k * w) (crop P rect).samples ++ xs)
    (ap (λ (xs : List ℕ). take (j * ((band.right - band.left) * P.planes)) (crop P band).samples ++ xs) (sym there)
    ∙ (sym band_more ∙ ap (λ (n : ℕ). take (n * ((band.right - band.left) * P.planes)) (crop P band).samples)
    (let s : j + 1 ≡ suc j = omega arith in s))))))

-- the rows above a band, and the band
pub rows_band : (format : Format) (P : Plane) (rect band : Rect) → IsWhole P → IsPart rect (shape_of P)
    → band.left ≡ rect.left → band.right ≡ rect.right → rect.top ≤ band.top → band.top ≤ band.bottom
    → band.bottom ≤ rect.bottom
    → rows_of format P rect (band.top - rect.top) ++ pixels_of format (crop P band).samples ≡ rows_of format P rect
    (band.bottom - rect.top)
unfolding rows_of
rows_band format P rect band whole within left right after order low =
    let k : ℕ = band.top - rect.top in
    let j : ℕ = band.bottom - band.top in
    let all : k + j ≡ band.bottom - rect.top = omega arith in
    let lies : LiesIn rect (rect_of P) = record {
      top = omega arith;
      bottom = within.inside.bottom;
      left = omega arith;
      right = within.inside.right;
    } in
    ap (λ (xs : List ℕ). rows_of format P rect k ++ pixels_of format xs) (sym (crop_all P band))
    ∙ (sym (pixels_of-append format _ _)
    ∙ (ap (pixels_of format) (sym (crop_then P rect band k j whole lies (omega (arith, within.some.cols)) left right
    (omega arith) low (omega arith)))
    ∙ ap (rows_of format P rect) all))

-- the rows up to one, and those that are left
pub rows_left : (format : Format) (P : Plane) (rect : Rect) (k : ℕ) → (more : List ℕ)
    × (rows_of format P rect k ++ more ≡ pixels_of format (crop P rect).samples)
unfolding rows_of
rows_left format P rect k = (
  pixels_of format (drop (k * ((rect.right - rect.left) * P.planes)) (crop P rect).samples),
  sym (pixels_of-append format _ _)
      ∙ ap (pixels_of format) (take-append-drop (k * ((rect.right - rect.left) * P.planes)) (crop P rect).samples),
)

-- how many samples a part of a developed plane has
pub length-part : (P : Plane) (rect : Rect) → IsDeveloped P → length (crop P rect).samples ≡ (rect.bottom - rect.top) *
    (rect.right - rect.left) * 3
length-part P rect developed = length-crop P rect
    ∙ ap (λ (k : ℕ). (rect.bottom - rect.top) * (rect.right - rect.left) * k) developed.planes

-- the most samples of a part
pub few_samples : (h w : ℕ) → h ≤ 8192 → w ≤ 8192 → h * w ≤ 67108864
few_samples h w rows cols =
    let first : h * w ≤ 8192 * w = mul-le-mul_right w rows in
    omega arith

-- the length of an image
length-image : (format : Format) (P : Plane) (rect : Rect) → IsDeveloped P
    → length (image P rect format) ≡ length (head_of format (rect.right - rect.left) (rect.bottom - rect.top)) +
    (rect.bottom - rect.top) * (6 * (rect.right - rect.left))
length-image format P rect developed =
    let w : ℕ = rect.right - rect.left in
    let h : ℕ = rect.bottom - rect.top in
    let twice : 2 * (h * w * 3) ≡ h * (6 * w) = omega arith in
    length-image_of format w h (crop P rect).samples
    ∙ ap (λ (k : ℕ). length (head_of format w h) + k) (ap (λ (k : ℕ). 2 * k) (length-part P rect developed) ∙ twice)

-- the reply to a region: the heads, and then the rows
pub reply_pieces : (format : Format) (P : Plane) (rect : Rect) (heads : List ℕ) → IsDeveloped P
    → heads ≡ reply_head_of (length (head_of format (rect.right - rect.left) (rect.bottom - rect.top)) +
    (rect.bottom - rect.top) * (6 * (rect.right - rect.left)))
    ++ head_of format (rect.right - rect.left) (rect.bottom - rect.top)
    → heads ++ pixels_of format (crop P rect).samples ≡ image_reply (image P rect format)
reply_pieces format P rect heads developed is =
    let head : List ℕ = head_of format (rect.right - rect.left) (rect.bottom - rect.top) in
    let pixels : List ℕ = pixels_of format (crop P rect).samples in
    let n : ℕ = length (image P rect format) in
    ap (λ (prefix : List ℕ). prefix ++ pixels) (is
    ∙ ap (λ (k : ℕ). reply_head_of k ++ head) (sym (length-image format P rect developed)))
    ∙ append_assoc (reply_head_of n) head pixels

-- the reply to a region, by its rectangle
pub reply_some : (Q : Plane) (format : Format) (o : Option Rect) (rect : Rect) → o ≡ Some rect
    → region_reply Q format o ≡ image_reply (image Q rect format)
unfolding region_reply
reply_some Q format o rect is = rw is refl

pub reply_none : (Q : Plane) (format : Format) (o : Option Rect) → o ≡ None → region_reply Q format o ≡ no_region
unfolding region_reply
reply_none Q format o is = rw is refl
