-- Definitions for the contracts between functions of this crate: a row of pixels, from rows of samples. This is this
-- project's own.
use Rattle.std.specs.Prelude.{◌≡◌, ℕ, ◌+◌, ◌-◌, ◌*◌, ◌<◌, ◌≤◌, min, pos, ◌-ℤ◌, List, length, slice_index, slice_set}
use Rattle.plane_view.specs.Reflect.{reflected}
use Rattle.plane_view.specs.Lent.{Lent, IsRowPart}
use Rattle.malvar.specs.declared.Kind.{Kind}
use Rattle.malvar.specs.Demosaic.{table_of, reach_of}
use Rattle.malvar.specs.inner.Around.{own_colour, next_colour, sample_by, site_at}
use Rattle.malvar.specs.declared.filters.Around.{Around}
use Rattle.malvar.specs.declared.filters.Site.{Site}
use Rattle.malvar.specs.declared.windows.Window.{Window}

-- how many samples each row has
abbrev pub count_of : Window → ℕ
count_of w = length w.here.now

-- the window has the columns up to so far away from those from one up to another, but for those outside the plane
pub record Spans (reach : ℕ) (w : Window) (from to : ℕ) : Type 0 where
  pub low : w.left ≤ from - reach
  pub order : from ≤ to
  pub within : to ≤ w.cols
  pub high : min (to + reach) w.cols ≤ w.left + count_of w

-- the sums at place c of each row, with these places for the ones on its left and on its right
abbrev pub around_by : Window → (far_left left c right far_right : ℕ) → Around
around_by w far_left left c right far_right = record {
  centre = slice_index w.here.now c;
  horizontal = slice_index w.here.now left + slice_index w.here.now right;
  vertical = slice_index w.up.now c + slice_index w.down.now c;
  diagonal = (slice_index w.up.now left + slice_index w.up.now right)
      + (slice_index w.down.now left + slice_index w.down.now right);
  horizontal_far = slice_index w.here.now far_left + slice_index w.here.now far_right;
  vertical_far = slice_index w.far_up.now c + slice_index w.far_down.now c;
}

-- the sums at column c, columns outside the plane being reflected
abbrev pub around_at : ℕ → Window → ℕ → Around
around_at reach w c =
    around_by w (reflected w.cols (pos c -ℤ pos reach) - w.left) (reflected w.cols (pos c -ℤ pos 1) - w.left)
    (c - w.left) (reflected w.cols (pos (c + 1)) - w.left) (reflected w.cols (pos (c + reach)) - w.left)

-- the sample of a wanted colour at column c, where the even columns are sites of one kind and the odd ones of another
abbrev pub row_sample : Kind → (even odd : Site) → Window → ℕ → ℕ → ℕ
row_sample kind even odd w c wanted =
    let site = site_at even odd c in
    sample_by (table_of kind) (own_colour site) (next_colour site) (around_at (reach_of kind) w c) wanted

-- the pixels from one column up to another have these samples, in a row that begins with column `first`
abbrev pub HasPixels : (ℕ → ℕ → ℕ) → ℕ → List ℕ → ℕ → ℕ → Type 0
HasPixels f first xs from to = (c p : ℕ) → from ≤ c → c < to → p < 3 → slice_index xs ((c - first) * 3 + p) ≡ f c p

-- the pixels from one column up to another are developed
abbrev pub HasColumns : Kind → (even odd : Site) → Window → ℕ → List ℕ → ℕ → ℕ → Type 0
HasColumns kind even odd w first xs from to = HasPixels (row_sample kind even odd w) first xs from to

-- a row whose pixel k is written
abbrev pub with_pixel : List ℕ → ℕ → List ℕ → List ℕ
with_pixel xs k pixel =
    slice_set (slice_set (slice_set xs (k * 3) (slice_index pixel 0)) (k * 3 + 1) (slice_index pixel 1)) (k * 3 + 2)
    (slice_index pixel 2)

-- the pixels below pixel k are the same
abbrev pub SameBelow : List ℕ → List ℕ → ℕ → Type 0
SameBelow xs ys k = (i : ℕ) → i < k * 3 → slice_index ys i ≡ slice_index xs i

-- the window has row r of a lent part, of a plane of so many rows, and the rows that are next to it and so far from it:
-- reflected where they are outside the plane
pub record IsWindowOf (reach : ℕ) (w : Window) (L : Lent) (rows r : ℕ) : Type 0 where
  pub far_up : IsRowPart w.far_up.now L (reflected rows (pos r -ℤ pos reach)) w.left (w.left + count_of w)
  pub up : IsRowPart w.up.now L (reflected rows (pos r -ℤ pos 1)) w.left (w.left + count_of w)
  pub here : IsRowPart w.here.now L r w.left (w.left + count_of w)
  pub down : IsRowPart w.down.now L (reflected rows (pos (r + 1))) w.left (w.left + count_of w)
  pub far_down : IsRowPart w.far_down.now L (reflected rows (pos (r + reach))) w.left (w.left + count_of w)
