-- The frame definition at work on a flat frame of 4 by 4 samples, 154 bytes, and on parts of it.
use Rattle.std.proofs.Common.{◌≡◌, ℕ, pos, negsuc, List, [], ◌∷◌, take, Ok, Err, Some, None, refl, false}
use Rattle.tiff_dirs.specs.Entries.{entries, entry_of, field_of, field_or_fault, slot_at, value_fits, value_place}
use Rattle.tiff_dirs.specs.Entries.{value_size}
use Rattle.tiff_dirs.specs.Header.{directory_fits, entry_count, first_directory, has_header, is_big, is_little, open_of}
use Rattle.tiff_dirs.specs.Header.{order_of}
use Rattle.tiff_dirs.specs.Kinds.{size_of}
use Rattle.tiff_dirs.specs.Numbers.{number_at}
use Rattle.tiff_dirs.specs.Values.{number_in}
use Rattle.tiff_dirs.specs.declared.Order.TheVariants.{Little}
use Rattle.dng_tags.specs.Area.{active_of, crop_of, extent_of, large_enough}
use Rattle.dng_tags.specs.Black.{greatest_black, levels_of, levels_under, repeat_of, row_by_row, span_of, spanning}
use Rattle.dng_tags.specs.Black.{table_of, white_of}
use Rattle.dng_tags.specs.Colours.{analog_of, calibration_of, colour_of, gain_of, gains_in, gains_of, has_gain}
use Rattle.dng_tags.specs.Colours.{is_positive, matrix_of, ones}
use Rattle.dng_tags.specs.Form.{depth_of, form_of, format_of, lossless_of, photometric_of, samples_per_pixel_of}
use Rattle.dng_tags.specs.Form.{shape_of, side_of}
use Rattle.plane_view.specs.Cuts.{part}
use Rattle.tag_rules.specs.Values.{field_at, fractions_at, fractions_in, fractions_of, number_of, number_or, numbers_at}
use Rattle.tag_rules.specs.Values.{numbers_in, numbers_of, required_number_of, required_numbers_of}
use Rattle.dng_tags.specs.Frame.{frame_of, record_of}
use Rattle.dng_tags.specs.Listed.{listed_of}
use Rattle.opcode_list.specs.Trims.{first_misfit, left_after}
use Rattle.tag_rules.specs.Opcodes.{opcodes_under}
use Rattle.dng_tags.specs.Layout.{checked_layout, layout_of, segment_at, segments_in, segments_of}
use Rattle.dng_tags.specs.Layout.{strip_rows_of, strips_of}
use Rattle.dng_tags.specs.Origin.{needed_version_of, origin_of, raw_directory_of, subfile_type_at, tiff_of, version_of}
use Rattle.dng_tags.specs.Pattern.{colours_of, has_plane_colours, has_rectangular_layout, pattern_of, pattern_size_of}
use Rattle.tag_rules.specs.Quantities.{in_parts}
use Rattle.tag_rules.specs.declared.faults.FrameFault.TheVariants.{BadDirectory, NotTiff, Outside}
use Rattle.dng_tags.specs.declared.record.Frame.{Frame}
use Rattle.dng_tags.specs.declared.record.Levels.{Levels}

-- the header and the count; nine entries; the next directory's offset; the strip
abbrev flat : List ℕ
flat =
    0x49 ∷ 0x49 ∷ 0x2A ∷ 0 ∷ 8 ∷ 0 ∷ 0 ∷ 0 ∷ 9 ∷ 0
    ∷ 0 ∷ 1 ∷ 3 ∷ 0 ∷ 1 ∷ 0 ∷ 0 ∷ 0 ∷ 4 ∷ 0 ∷ 0 ∷ 0
    ∷ 1 ∷ 1 ∷ 3 ∷ 0 ∷ 1 ∷ 0 ∷ 0 ∷ 0 ∷ 4 ∷ 0 ∷ 0 ∷ 0
    ∷ 2 ∷ 1 ∷ 3 ∷ 0 ∷ 1 ∷ 0 ∷ 0 ∷ 0 ∷ 0x10 ∷ 0 ∷ 0 ∷ 0
    ∷ 6 ∷ 1 ∷ 3 ∷ 0 ∷ 1 ∷ 0 ∷ 0 ∷ 0 ∷ 0x23 ∷ 0x80 ∷ 0 ∷ 0
    ∷ 0x11 ∷ 1 ∷ 4 ∷ 0 ∷ 1 ∷ 0 ∷ 0 ∷ 0 ∷ 0x7A ∷ 0 ∷ 0 ∷ 0
    ∷ 0x17 ∷ 1 ∷ 4 ∷ 0 ∷ 1 ∷ 0 ∷ 0 ∷ 0 ∷ 0x20 ∷ 0 ∷ 0 ∷ 0
    ∷ 0x8D ∷ 0x82 ∷ 3 ∷ 0 ∷ 2 ∷ 0 ∷ 0 ∷ 0 ∷ 2 ∷ 0 ∷ 2 ∷ 0
    ∷ 0x8E ∷ 0x82 ∷ 1 ∷ 0 ∷ 4 ∷ 0 ∷ 0 ∷ 0 ∷ 0 ∷ 1 ∷ 1 ∷ 2
    ∷ 0x12 ∷ 0xC6 ∷ 1 ∷ 0 ∷ 4 ∷ 0 ∷ 0 ∷ 0 ∷ 1 ∷ 4 ∷ 0 ∷ 0
    ∷ 0 ∷ 0 ∷ 0 ∷ 0
    ∷ 0x34 ∷ 0x12 ∷ 0x34 ∷ 0x12 ∷ 0x34 ∷ 0x12 ∷ 0x34 ∷ 0x12 ∷ 0x34 ∷ 0x12 ∷ 0x34 ∷ 0x12 ∷ 0x34 ∷ 0x12 ∷ 0x34 ∷ 0x12
    ∷ 0x34 ∷ 0x12 ∷ 0x34 ∷ 0x12 ∷ 0x34 ∷ 0x12 ∷ 0x34 ∷ 0x12 ∷ 0x34 ∷ 0x12 ∷ 0x34 ∷ 0x12 ∷ 0x34 ∷ 0x12 ∷ 0x34 ∷ 0x12 ∷ []

-- every default of a frame that has no more than it must
abbrev flat_record : Frame
flat_record = record {
  shape = record { rows = 4; cols = 4; planes = 1 };
  depth = 16;
  lossless = false;
  order = Little;
  segments = record {
    at = 122;
    length = 32;
    rect = record { top = 0; left = 0; bottom = 4; right = 4 };
    full_rows = 4;
    full_cols = 4;
  } ∷ [];
  cfa = 0 ∷ 1 ∷ 1 ∷ 2 ∷ [];
  list1 = [];
  active = record { top = 0; left = 0; bottom = 4; right = 4 };
  levels = record {
    table = [];
    black_rows = 1;
    black_cols = 1;
    black = pos 0 ∷ [];
    delta_h = [];
    delta_v = [];
    white = 65535;
  };
  list2 = [];
  list3 = [];
  crop = record { top = 0; left = 0; bottom = 4; right = 4 };
  colour = record {
    gains = 4096 ∷ 4096 ∷ 4096 ∷ [];
    forward1 = None;
    forward2 = None;
    matrix1 = None;
    matrix2 = None;
    analog = ones;
    calibration1 = ones;
    calibration2 = ones;
  };
}

flat-frame : frame_of flat ≡ Ok flat_record
unfolding frame_of record_of tiff_of open_of origin_of version_of needed_version_of raw_directory_of subfile_type_at
    form_of photometric_of lossless_of samples_per_pixel_of depth_of format_of shape_of side_of required_number_of
    number_or segments_of layout_of strips_of strip_rows_of required_numbers_of checked_layout segments_in segment_at
    pattern_of pattern_size_of colours_of has_plane_colours has_rectangular_layout listed_of opcodes_under
    first_misfit left_after active_of large_enough levels_of table_of repeat_of levels_under white_of spanning span_of
    greatest_black crop_of extent_of colour_of matrix_of calibration_of analog_of gains_of numbers_of number_of
    numbers_at fractions_of fractions_at field_at numbers_in fractions_in order_of is_big is_little has_header
    first_directory directory_fits entry_count number_at entry_of entries field_or_fault field_of value_fits value_size
    value_place slot_at size_of number_in row_by_row
flat-frame = refl

-- one byte fewer, and a shorter file
flat-outside : frame_of (take 153 flat) ≡ Err (Outside 0)
unfolding frame_of record_of tiff_of open_of origin_of version_of needed_version_of raw_directory_of subfile_type_at
    form_of photometric_of lossless_of samples_per_pixel_of depth_of format_of shape_of side_of required_number_of
    number_or segments_of layout_of strips_of strip_rows_of required_numbers_of checked_layout segments_in segment_at
    numbers_of number_of numbers_at field_at numbers_in order_of is_big is_little has_header first_directory
    directory_fits entry_count number_at entry_of entries field_or_fault field_of value_fits value_size value_place
    slot_at size_of number_in
flat-outside = refl

flat-no-directory : frame_of (take 9 flat) ≡ Err (BadDirectory 8)
unfolding frame_of tiff_of open_of order_of is_big is_little has_header first_directory directory_fits entry_count
    number_at
flat-no-directory = refl

flat-no-header : frame_of (take 7 flat) ≡ Err NotTiff
unfolding frame_of tiff_of open_of order_of is_big is_little has_header
flat-no-header = refl

-- a neutral of 1/2, 1, 2/3
neutral-gains : gains_in (Some ((pos 1, pos 2) ∷ (pos 1, pos 1) ∷ (pos 2, pos 3) ∷ [])) ≡ Ok (8192 ∷ 4096 ∷ 6144 ∷ [])
unfolding has_gain is_positive gain_of
neutral-gains = refl

-- -1/512, 1/512 and 1/1024 in 256ths: halves are rounded up
halves : (in_parts 256 (negsuc 0, pos 512) ≡ pos 0) × (in_parts 256 (pos 1, pos 512) ≡ pos 1)
    × (in_parts 256 (pos 1, pos 1024) ≡ pos 0)
unfolding in_parts
halves = (refl, refl, refl)

-- nine rows in strips of four, and a tile past the right edge
strips-cut : (part (record { rows = 9; cols = 5; planes = 1 }) 4 5 2
    ≡ record { top = 8; left = 0; bottom = 9; right = 5 })
    × (part (record { rows = 9; cols = 5; planes = 1 }) 16 3 1
    ≡ record { top = 0; left = 3; bottom = 9; right = 5 })
strips-cut = (refl, refl)

-- the greatest black level is looked for in the whole area
abbrev two_rows : Levels
two_rows = record {
  table = [];
  black_rows = 2;
  black_cols = 1;
  black = pos 256 ∷ pos 512 ∷ [];
  delta_h = pos 1 ∷ pos 9 ∷ negsuc 3 ∷ [];
  delta_v = [];
  white = 4;
}

greatest-of-area : (greatest_black two_rows 2 3 ≡ pos 521) × (greatest_black two_rows 1 3 ≡ pos 265)
    × (span_of two_rows 2 3 ≡ pos 503)
unfolding greatest_black row_by_row span_of
greatest-of-area = (refl, refl, refl)
