-- The groups of the active area, of the size at demosaicing and of the default crop (DNG 1.6, chapter 4, "ActiveArea",
-- "DefaultCropOrigin", "DefaultCropSize"). The rounding and the smallest size are this project's own.
use Rattle.std.specs.Prelude.{ℕ, nat_le, nat_lt, ◌&&◌, if◌then◌else◌, ℤ, pos, ◌+ℤ◌, ◌-ℤ◌, int_lt, Bool, List}
use Rattle.std.specs.Prelude.{slice_index, slice_index_or, Option, Result, Ok, Err, unwrap_or}
use Rattle.std.specs.Int.{int_div_euclid}
use Rattle.std.specs.Option.{option_map, option_map_or, option_transpose}
use Rattle.plane_view.specs.Rectangles.{whole_rect}
use Rattle.plane_view.specs.Samples.{held_within}
use Rattle.plane_view.specs.declared.Rect.{Rect}
use Rattle.plane_view.specs.declared.Shape.{Shape}
use Rattle.text_line.specs.Chain.{and_then}
use Rattle.tag_rules.specs.Values.{Dirs, fractions_of, numbers_of}
use Rattle.dng_tags.specs.declared.area.Extent.{Extent}
use Rattle.tag_rules.specs.declared.faults.FrameFault.{FrameFault}
use Rattle.tag_rules.specs.declared.faults.FrameFault.TheVariants.{Active, Crop, Size}
use Rattle.tag_rules.specs.declared.tags.Tag.{Tag}
use Rattle.tag_rules.specs.declared.tags.Tag.TheVariants.{ActiveArea, DefaultCropOrigin, DefaultCropSize}

-- top, left, bottom, right
abbrev pub rect_in : List ℕ → Rect
rect_in xs =
    record { top = slice_index xs 0; left = slice_index xs 1; bottom = slice_index xs 2; right = slice_index xs 3 }

-- whether a rectangle has a pixel
abbrev pub has_pixels : Rect → Bool
has_pixels rect = nat_lt rect.top rect.bottom && nat_lt rect.left rect.right

-- the active area, in the plane that list 1 leaves: the whole plane where the tag is absent
unfoldable pub active_of : Dirs → Shape → Result Rect FrameFault
active_of dirs shape =
    and_then (numbers_of dirs ActiveArea) (λ found.
    let active = option_map_or rect_in found (whole_rect shape.rows shape.cols) in
    if has_pixels active && nat_le active.bottom shape.rows && nat_le active.right shape.cols
    then Ok active else Err Active)

-- a plane that is large enough to be demosaiced
unfoldable pub large_enough : Shape → Result Shape FrameFault
large_enough shape = if nat_le 4 shape.rows && nat_le 4 shape.cols then Ok shape else Err Size

-- a fraction rounded down
abbrev pub rounded_down : ℤ × ℤ → ℤ
rounded_down q = int_div_euclid q.0 q.1

-- a pair of fractions, across and down, rounded down; a denominator is positive
abbrev pub extent_in : List (ℤ × ℤ) → Result Extent FrameFault
extent_in xs =
    let x = slice_index_or xs 0 (pos 0, pos 0) in
    let y = slice_index_or xs 1 (pos 0, pos 0) in
    if int_lt (pos 0) x.1 && int_lt (pos 0) y.1
    then Ok (record { across = rounded_down x; down = rounded_down y }) else Err Crop

-- the same of a tag, if it is there
unfoldable pub extent_of : Dirs → Tag → Result (Option Extent) FrameFault
extent_of dirs tag = and_then (fractions_of dirs tag) (λ found. option_transpose (option_map extent_in found))

-- the pixels of a plane that a crop has: from its origin on, as many as its size says
abbrev pub crop_rect : (rows cols : ℕ) → Extent → Extent → Rect
crop_rect rows cols origin size =
    record {
      top = held_within rows origin.down;
      left = held_within cols origin.across;
      bottom = held_within rows (origin.down +ℤ size.down);
      right = held_within cols (origin.across +ℤ size.across);
    }

-- what a plane has from an origin on
abbrev pub rest_of : (rows cols : ℕ) → Extent → Extent
rest_of rows cols origin = record { across = pos cols -ℤ origin.across; down = pos rows -ℤ origin.down }

-- the default crop of a plane: all that is to the right of its origin and below it where the size is absent
unfoldable pub crop_of : Dirs → (rows cols : ℕ) → Result Rect FrameFault
crop_of dirs rows cols =
    and_then (extent_of dirs DefaultCropOrigin) (λ place.
    let origin = unwrap_or place (record { across = pos 0; down = pos 0 }) in
    and_then (extent_of dirs DefaultCropSize) (λ size.
    let crop = crop_rect rows cols origin (unwrap_or size (rest_of rows cols origin)) in
    if has_pixels crop then Ok crop else Err Crop))
