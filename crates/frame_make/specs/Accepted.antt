-- What the frame definition makes of a made frame: this project's own choice of one.
use Rattle.std.specs.Prelude.{ℕ, ◌*◌, ◌^◌, ◌≤◌, Bool, true, false, pos, [], ◌∷◌, length, None}
use Rattle.plane_view.specs.Plane.{Plane, plane_of}
use Rattle.plane_view.specs.Rectangles.{whole_rect}
use Rattle.tiff_dirs.specs.declared.Order.TheVariants.{Little}
use Rattle.dng_tags.specs.Colours.{ones}
use Rattle.dng_tags.specs.declared.record.Colour.{Colour}
use Rattle.dng_tags.specs.declared.record.Frame.{Frame}
use Rattle.dng_tags.specs.declared.record.Levels.{Levels}
use Rattle.dng_tags.specs.declared.record.Segment.{Segment}
use Rattle.frame_make.specs.Made.{depth_of, made_sample, made_strip}
use Rattle.frame_make.specs.declared.Make.{Make}
use Rattle.frame_make.specs.declared.Make.TheVariants.{Lossless, Packed12, Plain16}

-- the sides of a made frame
pub record AreSides (w h : ℕ) : Type 0 where
  pub some_cols : 4 ≤ w
  pub cols : w ≤ 8192
  pub some_rows : 4 ≤ h
  pub rows : h ≤ 8192
  pub area : w * h ≤ 2 ^ 25

-- no table, black 0, white 4095
abbrev pub made_levels : Levels
made_levels = record {
  table = [];
  black_rows = 1;
  black_cols = 1;
  black = pos 0 ∷ [];
  delta_h = [];
  delta_v = [];
  white = 4095;
}

-- no colour tags: gains and calibrations of one, no matrix
abbrev pub made_colour : Colour
made_colour = record {
  gains = 4096 ∷ 4096 ∷ 4096 ∷ [];
  forward1 = None;
  forward2 = None;
  matrix1 = None;
  matrix2 = None;
  analog = ones;
  calibration1 = ones;
  calibration2 = ones;
}

-- one strip behind the directory
abbrev pub one_strip : (w h strip_length : ℕ) → Segment
one_strip w h strip_length =
    record { at = 146; length = strip_length; rect = whole_rect h w; full_rows = h; full_cols = w }

-- a frame that is one strip, all of which is active and shown
abbrev pub one_strip_frame : (w h depth : ℕ) → (lossless : Bool) → (strip_length : ℕ) → Frame
one_strip_frame w h depth lossless strip_length = record {
  shape = record { rows = h; cols = w; planes = 1 };
  depth = depth;
  lossless = lossless;
  order = Little;
  segments = one_strip w h strip_length ∷ [];
  cfa = 0 ∷ 1 ∷ 1 ∷ 2 ∷ [];
  list1 = [];
  active = whole_rect h w;
  levels = made_levels;
  list2 = [];
  list3 = [];
  crop = whole_rect h w;
  colour = made_colour;
}

-- whether a form is coded as lossless JPEG
abbrev pub is_lossless : Make → Bool
is_lossless Plain16 = false
is_lossless Packed12 = false
is_lossless Lossless = true

-- the record of a made frame
abbrev pub made_frame : (number w h : ℕ) → Make → Frame
made_frame number w h kind =
    one_strip_frame w h (depth_of kind) (is_lossless kind) (length (made_strip number w h kind))

-- the plane of its samples
abbrev pub made_plane : (number w h : ℕ) → Plane
made_plane number w h = plane_of h w 1 (λ r c p. made_sample number r c)
