-- The groups of the frame definition over a made frame's entries.
use Rattle.std.proofs.Common.{◌≡◌, ℕ, zero, suc, ◌+◌, ◌-◌, ◌*◌, ◌/◌, ◌%◌, ◌<◌, ◌≤◌, min, nat_eq, ℤ, pos, true, false}
use Rattle.std.proofs.Common.{List, [], ◌∷◌, length, map, Ok, refl, ap, ap₂, ◌∙◌, arith}
use Rattle.std.specs.Prelude.{nat_le, nat_lt, ◌||◌, ◌+ℤ◌, ◌-ℤ◌, slice_index_or}
use Rattle.std.specs.Int.{div_ceil, int_max}
use Rattle.std.specs.List.{fold, range_with_len}
use Rattle.std.proofs.lemmas.Bool.{le-leb, le-ltb, lt-ltb}
use Rattle.std.proofs.lemmas.Int.{ints}
use Rattle.std.proofs.Math.Nat.{div_self, mod_self}
use Rattle.plane_view.specs.Cuts.{part}
use Rattle.plane_view.specs.Plane.{coloured}
use Rattle.plane_view.specs.Rectangles.{height as height_of, whole_rect}
use Rattle.plane_view.specs.Samples.{held_within}
use Rattle.plane_view.specs.declared.Rect.{Rect}
use Rattle.plane_view.specs.declared.Shape.{Shape}
use Rattle.opcode_list.specs.Trims.{first_misfit, left_after}
use Rattle.tiff_dirs.specs.Header.{open_of}
use Rattle.tag_rules.specs.Opcodes.{opcodes_under}
use Rattle.tag_rules.specs.Values.{Dirs, fractions_of, number_of, number_or, numbers_of, required_number_of}
use Rattle.tag_rules.specs.Values.{required_numbers_of}
use Rattle.tag_rules.specs.declared.tags.Tag.TheVariants.{ActiveArea, AnalogBalance, AsShotNeutral, BlackLevel}
use Rattle.tag_rules.specs.declared.tags.Tag.TheVariants.{BlackLevelDeltaH, BlackLevelDeltaV, BlackLevelRepeatDim}
use Rattle.tag_rules.specs.declared.tags.Tag.TheVariants.{CameraCalibration1, CameraCalibration2, CfaLayout}
use Rattle.tag_rules.specs.declared.tags.Tag.TheVariants.{CfaPlaneColor, ColorMatrix1, ColorMatrix2, DefaultCropOrigin}
use Rattle.tag_rules.specs.declared.tags.Tag.TheVariants.{DefaultCropSize, DngBackwardVersion, ForwardMatrix1}
use Rattle.tag_rules.specs.declared.tags.Tag.TheVariants.{ForwardMatrix2, ImageLength, ImageWidth, LinearizationTable}
use Rattle.tag_rules.specs.declared.tags.Tag.TheVariants.{NewSubfileType, OpcodeList1, OpcodeList2, OpcodeList3}
use Rattle.tag_rules.specs.declared.tags.Tag.TheVariants.{RowsPerStrip, SampleFormat, SamplesPerPixel, TileWidth}
use Rattle.dng_tags.specs.Area.{active_of, crop_of, crop_rect, extent_of, has_pixels, large_enough}
use Rattle.dng_tags.specs.Area.{rest_of}
use Rattle.dng_tags.specs.Black.{black_at, greatest, greatest_black, levels_of, levels_under, repeat_of, row_by_row}
use Rattle.dng_tags.specs.Black.{span_of}
use Rattle.dng_tags.specs.Black.{spanning, table_of, white_of}
use Rattle.dng_tags.specs.Colours.{analog_of, calibration_of, colour_of, gains_of, matrix_of}
use Rattle.dng_tags.specs.Form.{depth_of, form_of, format_of, lossless_of, photometric_of, samples_per_pixel_of}
use Rattle.dng_tags.specs.Form.{shape_of, side_of}
use Rattle.dng_tags.specs.Frame.{frame_of, record_of}
use Rattle.dng_tags.specs.Layout.{checked_layout, layout_of, segment_at, segment_count, segments_in}
use Rattle.dng_tags.specs.Layout.{segments_of, strip_rows_of, strips_of}
use Rattle.dng_tags.specs.Listed.{area_shape, listed_of}
use Rattle.dng_tags.specs.Origin.{needed_version_of, origin_of, raw_directory_of, subfile_type_at, tiff_of, version_of}
use Rattle.dng_tags.specs.Pattern.{colours_of, has_plane_colours, has_rectangular_layout, pattern_of, pattern_size_of}
use Rattle.dng_tags.specs.declared.area.Extent.{Extent}
use Rattle.dng_tags.specs.declared.layout.Cut.{Cut}
use Rattle.dng_tags.specs.declared.layout.Layout.{Layout}
use Rattle.dng_tags.specs.declared.record.Segment.{Segment}
use Rattle.frame_make.specs.Accepted.{AreSides, made_colour, made_levels, one_strip, one_strip_frame}
use Rattle.frame_make.proofs.Reading as read
use Rattle.frame_make.proofs.Reading.{HasEntries, absent, absent_field, absent_fractions}

-- a length is one part of itself
one_part : (n : ℕ) → 1 ≤ n → div_ceil n n ≡ 1
one_part n h = ap₂ (λ q r. q + min 1 r) (div_self h) (mod_self n)

rect_same : (top left bottom right h w : ℕ) → top ≡ 0 → left ≡ 0 → bottom ≡ h → right ≡ w
    → (let rect : Rect = record { top = top; left = left; bottom = bottom; right = right } in rect) ≡ whole_rect h w
rect_same top left bottom right h w a b c d = cc

-- an edge of a crop of all
edge_is : (n : ℕ) → held_within n (pos 0 +ℤ (pos n -ℤ pos 0)) ≡ n
edge_is n =
    let all : pos 0 +ℤ (pos n -ℤ pos 0) ≡ pos n = omega (arith, ints) in
    ap (held_within n) all ∙ (let least : min n n ≡ n = omega arith in least)

start_is : (n : ℕ) → held_within n (pos 0) ≡ 0
start_is n = omega arith

-- no black level but 0
zero_alone : (k : ℕ) → slice_index_or (pos 0 ∷ []) k (pos 0) ≡ pos 0
zero_alone zero = refl
zero_alone (suc k) = refl

black_zero : (r c : ℕ) → black_at made_levels r c ≡ pos 0
black_zero r c = ap (λ (x : ℤ). x +ℤ pos 0 +ℤ pos 0) (zero_alone (r % 1 * 1 + c % 1))

-- none of some zeros is above 0
fold_zero : (f : ℕ → ℤ) (a n : ℕ) → ((k : ℕ) → f k ≡ pos 0)
    → fold int_max (pos 0) (map f (range_with_len a n)) ≡ pos 0
fold_zero f a zero zeros = refl
fold_zero f a (suc n) zeros = rw (zeros a) (fold_zero f (a + 1) n zeros)

greatest_zero : (f : ℕ → ℤ) (a n : ℕ) → ((k : ℕ) → f k ≡ pos 0) → greatest (map f (range_with_len a n)) ≡ pos 0
greatest_zero f a zero zeros = refl
greatest_zero f a (suc n) zeros = rw (zeros a) (fold_zero f (a + 1) n zeros)

span_is : (h w : ℕ) → span_of made_levels h w ≡ pos 1048320
unfolding span_of greatest_black row_by_row
span_is h w =
    let none = greatest_zero (λ i. black_at made_levels (i / w) (i % w)) 0 (h * w) (λ i. black_zero (i / w) (i % w)) in
    rw none refl

module _ {bytes : List ℕ} {w h bits method count : ℕ} (e : HasEntries bytes w h bits method count)
    (sides : AreSides w h) where
  abbrev dirs : Dirs
  dirs = record { bytes = bytes; raw = 8 }

  abbrev shape : Shape
  shape = record { rows = h; cols = w; planes = 1 }

  -- ---- the file and its directory

  tiff : tiff_of bytes ≡ Ok bytes
  unfolding tiff_of open_of
  tiff = rw (e.header, e.first, e.fits) refl

  version : version_of bytes ≡ Ok (record { major = 1; minor = 4 })
  unfolding version_of
  version = rw (e.first, read.version_is e) refl

  needed : needed_version_of bytes (record { major = 1; minor = 4 }) ≡ Ok (record { major = 1; minor = 4 })
  unfolding needed_version_of
  needed = rw (e.first, absent e DngBackwardVersion refl) refl

  raw_directory : raw_directory_of bytes ≡ Ok 8
  unfolding raw_directory_of subfile_type_at
  raw_directory = rw (e.first, absent e NewSubfileType refl) refl

  origin : origin_of bytes ≡ Ok dirs
  unfolding origin_of
  origin = rw (version, needed, raw_directory) refl

  -- ---- the form

  photometric : photometric_of dirs ≡ Ok 32803
  unfolding photometric_of required_number_of number_of numbers_of
  photometric = rw (read.photometric_is e) refl

  samples : samples_per_pixel_of dirs ≡ Ok 1
  unfolding samples_per_pixel_of number_or number_of numbers_of
  samples = rw (absent e SamplesPerPixel refl) refl

  format : format_of dirs ≡ Ok 1
  unfolding format_of number_or number_of numbers_of
  format = rw (absent e SampleFormat refl) refl

  lossless : method < 65536 → (nat_eq method 1 || nat_eq method 7) ≡ true → lossless_of dirs ≡ Ok (nat_eq method 7)
  unfolding lossless_of number_or number_of numbers_of
  lossless small known = rw (read.compression_is e small, known) refl

  depth : 8 ≤ bits → bits ≤ 16 → depth_of dirs ≡ Ok bits
  unfolding depth_of number_or number_of numbers_of
  depth low high =
      let small : bits < 65536 = omega arith in
      let least = le-leb 8 bits low in
      let most = le-leb bits 16 high in
      rw (read.depth_is e small, least, most) refl

  width : side_of dirs ImageWidth ≡ Ok w
  unfolding side_of required_number_of number_of numbers_of
  width =
      let small : w < 65536 = omega arith in
      let least = le-leb 1 w (omega arith) in
      let most = le-leb w 8192 sides.cols in
      rw (read.width_is e small, least, most) refl

  height : side_of dirs ImageLength ≡ Ok h
  unfolding side_of required_number_of number_of numbers_of
  height =
      let small : h < 65536 = omega arith in
      let least = le-leb 1 h (omega arith) in
      let most = le-leb h 8192 sides.rows in
      rw (read.height_is e small, least, most) refl

  area : nat_le (h * w) 33554432 ≡ true
  area = le-leb (h * w) 33554432 (omega (arith, sides.area))

  told_shape : shape_of dirs ≡ Ok shape
  unfolding shape_of
  told_shape = rw (width, height, area) refl

  form : method < 65536 → (nat_eq method 1 || nat_eq method 7) ≡ true → 8 ≤ bits → bits ≤ 16
      → form_of dirs ≡ Ok (record { lossless = nat_eq method 7; depth = bits; shape = shape })
  unfolding form_of
  form small known low high = rw (photometric, lossless small known, samples, depth low high, format, told_shape) refl

  -- ---- the strip

  abbrev cut : Cut
  cut = record { rows = h; cols = w; padded = false }

  abbrev layout : Layout
  layout = record { cut = cut; offsets = 146 ∷ []; counts = count ∷ [] }

  strip_rows : strip_rows_of dirs shape ≡ Ok h
  unfolding strip_rows_of number_of numbers_of
  strip_rows =
      let least : min 4294967295 h ≡ h = omega (arith, sides.rows) in
      rw (absent e RowsPerStrip refl) (ap (λ n. Ok n) least)

  strips : count < 4294967296 → strips_of dirs shape ≡ Ok layout
  unfolding strips_of required_numbers_of numbers_of
  strips small =
      rw (read.offset_is e, strip_rows, read.count_is e small) refl

  across : div_ceil w w ≡ 1
  across = one_part w (omega (arith, sides.some_cols))

  down : div_ceil h h ≡ 1
  down = one_part h (omega (arith, sides.some_rows))

  one : segment_count shape cut ≡ 1
  one = rw (across, down) refl

  checked : checked_layout shape layout ≡ Ok layout
  unfolding checked_layout
  checked = rw (one, area) refl

  told_layout : count < 4294967296 → layout_of dirs shape ≡ Ok layout
  unfolding layout_of number_of numbers_of
  told_layout small = rw (absent e TileWidth refl, strips small, checked) refl

  rect : part shape h w 0 ≡ whole_rect h w
  rect = rw across (rect_same _ _ _ _ h w (omega arith) (omega arith) (omega arith) (omega arith))

  segment : segment_at shape layout 0 ≡ one_strip w h count
  unfolding segment_at
  segment =
      let tall : h - 0 ≡ h = omega arith in
      let with_rect : Rect → Segment =
      λ r. record { at = 146; length = count; rect = r; full_rows = height_of r; full_cols = w } in
      let with_rows : ℕ → Segment =
      λ n. record { at = 146; length = count; rect = whole_rect h w; full_rows = n; full_cols = w } in
      ap with_rect rect ∙ ap with_rows tall

  in_one : segments_in shape layout ≡ one_strip w h count ∷ []
  unfolding segments_in
  in_one = rw (one, segment) refl

  segments : count < 4294967296 → 146 + count ≤ length bytes → segments_of dirs shape ≡ Ok (one_strip w h count ∷ [])
  unfolding segments_of
  segments small inside =
      let within : nat_lt (length bytes) (146 + count) ≡ false = le-ltb (length bytes) (146 + count) inside in
      rw (told_layout small, in_one, within) refl

  -- ---- the other groups

  told_pattern : pattern_of dirs ≡ Ok (0 ∷ 1 ∷ 1 ∷ 2 ∷ [])
  unfolding pattern_of pattern_size_of colours_of has_plane_colours has_rectangular_layout required_numbers_of
      numbers_of number_or number_of
  told_pattern =
      rw (read.dims_are e, read.pattern_is e, absent e CfaPlaneColor refl, absent e CfaLayout refl) refl

  first_list : (found : Shape) → listed_of dirs 1 found ≡ Ok (record { opcodes = []; left = found })
  unfolding listed_of opcodes_under first_misfit left_after
  first_list found = rw (absent_field e OpcodeList1 refl) refl

  second_list : (found : Shape) → listed_of dirs 2 found ≡ Ok (record { opcodes = []; left = found })
  unfolding listed_of opcodes_under first_misfit left_after
  second_list found = rw (absent_field e OpcodeList2 refl) refl

  third_list : (found : Shape) → listed_of dirs 3 found ≡ Ok (record { opcodes = []; left = found })
  unfolding listed_of opcodes_under first_misfit left_after
  third_list found = rw (absent_field e OpcodeList3 refl) refl

  some_rows : nat_lt 0 h ≡ true
  some_rows = lt-ltb 0 h (omega (arith, sides.some_rows))

  some_cols : nat_lt 0 w ≡ true
  some_cols = lt-ltb 0 w (omega (arith, sides.some_cols))

  active : active_of dirs shape ≡ Ok (whole_rect h w)
  unfolding active_of numbers_of
  active =
      let rows : nat_le h h ≡ true = le-leb h h (omega arith) in
      let cols : nat_le w w ≡ true = le-leb w w (omega arith) in
      rw (absent e ActiveArea refl, some_rows, some_cols, rows, cols) refl

  table : table_of dirs ≡ Ok []
  unfolding table_of numbers_of
  table = rw (absent e LinearizationTable refl) refl

  repeated : repeat_of dirs ≡ Ok (record { rows = 1; cols = 1 })
  unfolding repeat_of numbers_of
  repeated = rw (absent e BlackLevelRepeatDim refl) refl

  black : levels_under dirs BlackLevel 1 1 ≡ Ok (pos 0 ∷ [])
  unfolding levels_under fractions_of
  black = rw (absent_fractions e BlackLevel refl) refl

  delta_h : (n : ℕ) → levels_under dirs BlackLevelDeltaH n 0 ≡ Ok []
  unfolding levels_under fractions_of
  delta_h n = rw (absent_fractions e BlackLevelDeltaH refl) refl

  delta_v : (n : ℕ) → levels_under dirs BlackLevelDeltaV n 0 ≡ Ok []
  unfolding levels_under fractions_of
  delta_v n = rw (absent_fractions e BlackLevelDeltaV refl) refl

  white : (depth : ℕ) → white_of dirs depth ≡ Ok 4095
  unfolding white_of number_of numbers_of
  white depth = rw (read.white_is e) refl

  spans : spanning (whole_rect h w) made_levels ≡ Ok made_levels
  unfolding spanning
  spans = rw (span_is (h - 0) (w - 0)) refl

  levels : (depth : ℕ) → levels_of dirs depth (whole_rect h w) ≡ Ok made_levels
  unfolding levels_of
  levels depth = rw (table, repeated, black, delta_h (w - 0), delta_v (h - 0), white depth, spans) refl

  whole : area_shape (whole_rect h w) ≡ shape
  whole =
      let tall : h - 0 ≡ h = omega arith in
      let wide : w - 0 ≡ w = omega arith in
      cc

  large : large_enough shape ≡ Ok shape
  unfolding large_enough
  large =
      let rows = le-leb 4 h sides.some_rows in
      let cols = le-leb 4 w sides.some_cols in
      rw (rows, cols) refl

  abbrev zero_extent : Extent
  zero_extent = record { across = pos 0; down = pos 0 }

  all_of_it : crop_rect h w zero_extent (rest_of h w zero_extent) ≡ whole_rect h w
  all_of_it = rect_same _ _ _ _ h w (start_is h) (start_is w) (edge_is h) (edge_is w)

  shown : has_pixels (crop_rect h w zero_extent (rest_of h w zero_extent)) ≡ true
  shown = ap has_pixels all_of_it ∙ (rw (some_rows, some_cols) refl)

  crop : crop_of dirs h w ≡ Ok (whole_rect h w)
  unfolding crop_of extent_of fractions_of
  crop = rw (absent_fractions e DefaultCropOrigin refl, absent_fractions e DefaultCropSize refl, shown, all_of_it) refl

  colour : colour_of dirs ≡ Ok made_colour
  unfolding colour_of matrix_of calibration_of analog_of gains_of fractions_of
  colour =
      rw (
        e.first,
        absent_fractions e ColorMatrix1 refl,
        absent_fractions e ColorMatrix2 refl,
        absent_fractions e CameraCalibration1 refl,
        absent_fractions e CameraCalibration2 refl,
        absent_fractions e AnalogBalance refl,
        absent_fractions e AsShotNeutral refl,
        absent_fractions e ForwardMatrix1 refl,
        absent_fractions e ForwardMatrix2 refl,
      ) refl

  -- ---- the whole record

  pub accepted : method < 65536 → (nat_eq method 1 || nat_eq method 7) ≡ true → 8 ≤ bits → bits ≤ 16
      → count < 4294967296 → 146 + count ≤ length bytes
      → frame_of bytes ≡ Ok (one_strip_frame w h bits (nat_eq method 7) count)
  unfolding frame_of record_of
  accepted method_small known low high small inside =
      rw (
        tiff,
        origin,
        form method_small known low high,
        segments small inside,
        told_pattern,
        first_list shape,
        active,
        levels bits,
        whole,
        second_list shape,
        large,
        third_list (coloured shape),
        crop,
        colour,
        e.order,
      ) refl
