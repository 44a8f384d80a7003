-- A row of pixels that is written from left to right.
use Rattle.std.proofs.Common.{◌≡◌, ◌≢◌, ℕ, zero, suc, ◌+◌, ◌-◌, ◌*◌, ◌<◌, ◌≤◌, List, length, get_or, refl, sym, ◌∙◌, ap}
use Rattle.std.proofs.Common.{subst, inl, inr, arith, get_or-set_other, get_or-set_same, length-set}
use Rattle.std.proofs.lemmas.Bool.{cases_lt}
use Rattle.malvar.specs.declared.Kind.{Kind}
use Rattle.malvar.specs.Demosaic.{table_of}
use Rattle.malvar.specs.inner.Around.{IsPixel, own_colour, next_colour, sample_by}
use Rattle.malvar.specs.inner.Rows.{HasPixels, SameBelow, with_pixel}
use Rattle.malvar.specs.declared.filters.Around.{Around}
use Rattle.malvar.specs.declared.filters.Site.{Site}

-- samples of the pixels before stay
with_pixel-other : (xs : List ℕ) (c : ℕ) (pixel : List ℕ) (k : ℕ) → k < c * 3
    → get_or (with_pixel xs c pixel) k 0 ≡ get_or xs k 0
with_pixel-other xs c pixel k h =
    let not_red : k ≢ c * 3 = omega arith in
    let not_green : k ≢ c * 3 + 1 = omega arith in
    let not_blue : k ≢ c * 3 + 2 = omega arith in
    rw (get_or-set_other, get_or-set_other, get_or-set_other) refl

-- the samples of the pixel
with_pixel-same : (f : ℕ → ℕ) (xs : List ℕ) (c : ℕ) (pixel : List ℕ) (p : ℕ) → c * 3 + 3 ≤ length xs → p < 3
    → IsPixel f pixel → get_or (with_pixel xs c pixel) (c * 3 + p) 0 ≡ f p
with_pixel-same f xs c pixel zero room _ is = grind (arith, get_or-set_other, get_or-set_same, length-set, is.red)
with_pixel-same f xs c pixel (suc zero) room _ is =
    grind (arith, get_or-set_other, get_or-set_same, length-set, is.green)
with_pixel-same f xs c pixel (suc (suc zero)) room _ is =
    grind (arith, get_or-set_other, get_or-set_same, length-set, is.blue)
with_pixel-same f xs c pixel (suc (suc (suc p))) room h is = absurd (omega arith)

-- one more pixel, at place j of a row that begins with column `first`
pub pixels_more : (f : ℕ → ℕ → ℕ) (first : ℕ) (xs : List ℕ) (from c d j : ℕ) (pixel : List ℕ) → d ≡ c + 1
    → c ≡ first + j → first ≤ from → j * 3 + 3 ≤ length xs → IsPixel (f c) pixel → HasPixels f first xs from c
    → HasPixels f first (with_pixel xs j pixel) from d
pixels_more f first xs from c d j pixel next place begun room is before k p lo hi hp =
    elim (cases_lt k c) [
      | inl below ↦ with_pixel-other xs j pixel ((k - first) * 3 + p) (omega arith) ∙ before k p lo below hp
      | inr here ↦
          let same : k ≡ c = omega arith in
          let at : (k - first) * 3 + p ≡ j * 3 + p = omega arith in
          rw at (with_pixel-same (f c) xs j pixel p room hp is) ∙ ap (λ n. f n p) (sym same)
    ]

-- two more pixels
pub pixels_more_2 : (f : ℕ → ℕ → ℕ) (first : ℕ) (xs : List ℕ) (from c d to j k : ℕ) (one two : List ℕ) → d ≡ c + 1
    → to ≡ d + 1 → c ≡ first + j → d ≡ first + k → first ≤ from → k * 3 + 3 ≤ length xs → IsPixel (f c) one
    → IsPixel (f d) two → HasPixels f first xs from c → HasPixels f first (with_pixel (with_pixel xs j one) k two) from
    to
pixels_more_2 f first xs from c d to j k one two next end place place_2 begun room is_one is_two before =
    let len : length (with_pixel xs j one) ≡ length xs = simp length-set in
    pixels_more f first (with_pixel xs j one) from d to k two end place_2 begun (omega arith) is_two
    (pixels_more f first xs from c d j one next place begun (omega arith) is_one before)

-- what stands below stays
pub same_below_more : (xs ys : List ℕ) (from j : ℕ) (pixel : List ℕ) → from ≤ j → SameBelow xs ys from
    → SameBelow xs (with_pixel ys j pixel) from
same_below_more xs ys from j pixel h same k below = with_pixel-other ys j pixel k (omega arith) ∙ same k below

-- the same site and the same sums give the same pixel
pub same_pixel : (kind : Kind) (s t : Site) (a b : Around) (pixel : List ℕ) → s ≡ t → a ≡ b
    → IsPixel (sample_by (table_of kind) (own_colour s) (next_colour s) a) pixel
    → IsPixel (sample_by (table_of kind) (own_colour t) (next_colour t) b) pixel
same_pixel kind s t a b pixel same_site same_sums is =
    subst (λ (x : Around). IsPixel (sample_by (table_of kind) (own_colour t) (next_colour t) x) pixel) same_sums
    (subst (λ (x : Site). IsPixel (sample_by (table_of kind) (own_colour x) (next_colour x) a) pixel) same_site is)
