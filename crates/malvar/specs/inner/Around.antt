-- Definitions for the contracts between functions of this crate: what a filter reads round one pixel, apart from planes
-- and rows. This is this project's own.
use Rattle.std.specs.Prelude.{◌≡◌, ℕ, ◌+◌, ◌%◌, ◌≤◌, nat_eq, if◌then◌else◌, ℤ, pos, ◌+ℤ◌, ◌-ℤ◌, ◌*ℤ◌, List, slice_index}
use Rattle.plane_view.specs.Reflect.{reflected}
use Rattle.malvar.specs.Demosaic.{Weights, Table, rounded, weights_by}
use Rattle.malvar.specs.declared.filters.Around.{Around}
use Rattle.malvar.specs.declared.filters.Site.{Site}
use Rattle.malvar.specs.declared.filters.Site.TheVariants.{Red, GreenByRed, GreenByBlue, Blue}
use Rattle.malvar.specs.declared.filters.RowSites.{RowSites}
use Rattle.malvar.specs.declared.filters.RowSites.TheVariants.{RedGreen, GreenRed, GreenBlue, BlueGreen}

-- each sum is one of so many samples of 16 bits
pub record IsAround (a : Around) : Type 0 where
  pub centre : a.centre ≤ 65535
  pub horizontal : a.horizontal ≤ 131070
  pub vertical : a.vertical ≤ 131070
  pub diagonal : a.diagonal ≤ 262140
  pub horizontal_far : a.horizontal_far ≤ 131070
  pub vertical_far : a.vertical_far ≤ 131070

-- the weighted sum, in sixteenths
abbrev pub weighted : Weights → Around → ℤ
weighted w a =
    w.centre *ℤ pos a.centre +ℤ w.horizontal *ℤ pos a.horizontal +ℤ w.vertical *ℤ pos a.vertical
    +ℤ w.diagonal *ℤ pos a.diagonal +ℤ w.horizontal_2 *ℤ pos a.horizontal_far +ℤ w.vertical_2 *ℤ pos a.vertical_far

-- the sample of a wanted colour, by the pixel's own colour and that of its neighbour to the right
abbrev pub sample_by : Table → ℕ → ℕ → Around → ℕ → ℕ
sample_by table own right a wanted =
    if nat_eq own wanted then a.centre else rounded (weighted (weights_by table own right wanted) a)

-- red, green and blue are these samples
pub record IsPixel (f : ℕ → ℕ) (pixel : List ℕ) : Type 0 where
  pub red : slice_index pixel 0 ≡ f 0
  pub green : slice_index pixel 1 ≡ f 1
  pub blue : slice_index pixel 2 ≡ f 2

-- the colour of a site
abbrev pub own_colour : Site → ℕ
own_colour Red = 0
own_colour GreenByRed = 1
own_colour GreenByBlue = 1
own_colour Blue = 2

-- the colour of the sites left and right of a site
abbrev pub next_colour : Site → ℕ
next_colour Red = 1
next_colour GreenByRed = 0
next_colour GreenByBlue = 2
next_colour Blue = 1

-- the site of a row's even columns
abbrev pub even_site : RowSites → Site
even_site RedGreen = Red
even_site GreenRed = GreenByRed
even_site GreenBlue = GreenByBlue
even_site BlueGreen = Blue

-- the site of a row's odd columns
abbrev pub odd_site : RowSites → Site
odd_site RedGreen = GreenByRed
odd_site GreenRed = Red
odd_site GreenBlue = Blue
odd_site BlueGreen = GreenByBlue

-- the site of column c of a row, by those of its even and its odd columns
abbrev pub site_at : (even odd : Site) → ℕ → Site
site_at even odd c = if nat_eq (c % 2) 0 then even else odd

-- the sums at row r, column c, with these rows for the ones near it, and these columns
abbrev pub around_in : (ℕ → ℕ → ℕ → ℕ) → (far_up up r down far_down far_left left c right far_right : ℕ) → Around
around_in at far_up up r down far_down far_left left c right far_right = record {
  centre = at r c 0;
  horizontal = at r left 0 + at r right 0;
  vertical = at up c 0 + at down c 0;
  diagonal = (at up left 0 + at up right 0) + (at down left 0 + at down right 0);
  horizontal_far = at r far_left 0 + at r far_right 0;
  vertical_far = at far_up c 0 + at far_down c 0;
}

-- the sums at row r, column c of a plane of these rows and columns, as far away as the filters reach
abbrev pub around_of : (reach rows cols : ℕ) → (ℕ → ℕ → ℕ → ℕ) → ℕ → ℕ → Around
around_of reach rows cols at r c =
    around_in at (reflected rows (pos r -ℤ pos reach)) (reflected rows (pos r -ℤ pos 1)) r
    (reflected rows (pos (r + 1))) (reflected rows (pos (r + reach))) (reflected cols (pos c -ℤ pos reach))
    (reflected cols (pos c -ℤ pos 1)) c (reflected cols (pos (c + 1))) (reflected cols (pos (c + reach)))
