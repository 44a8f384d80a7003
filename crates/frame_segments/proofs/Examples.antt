-- The raw plane at work.
use Rattle.std.proofs.Common.{◌≡◌, [], ◌∷◌, List, None, Some, refl}
use Rattle.binary_digits.specs.Digits.{bits_of, number_of}
use Rattle.plane_view.specs.Plane.{samples_of}
use Rattle.strip_unpack.specs.Samples.{file_order, row_sample, unpacked}
use Rattle.tiff_dirs.specs.declared.Order.TheVariants.{Big, Little}
use Rattle.tag_rules.specs.declared.faults.FrameFault.TheVariants.{Segment as SegmentRefused}
use Rattle.tag_rules.specs.declared.faults.SegmentFault.TheVariants.{Short}
use Rattle.dng_tags.specs.declared.record.Coding.TheVariants.{Packed}
use Rattle.dng_tags.specs.declared.record.Segment.{Segment}
use Rattle.dng_tags.specs.Raw.{fault_from, raw_sample, samples_in, segments_plane}

-- two strips of one row of 12 bits, the second one first in the file
abbrev strips : List Segment
strips =
    record {
      at = 4;
      length = 3;
      rect = record { top = 0; left = 0; bottom = 1; right = 2 };
      full_rows = 1;
      full_cols = 2;
    }
    ∷ record {
      at = 1;
      length = 3;
      rect = record { top = 1; left = 0; bottom = 2; right = 2 };
      full_rows = 1;
      full_cols = 2;
    }
    ∷ []

plane_of_strips : (segments_plane (9 ∷ 0xAB ∷ 0xCD ∷ 0xEF ∷ 0x12 ∷ 0x34 ∷ 0x56 ∷ []) (Packed Little 12)
    (record { rows = 2; cols = 2; planes = 1 }) strips).samples ≡ 0x123 ∷ 0x456 ∷ 0xABC ∷ 0xDEF ∷ []
unfolding segments_plane samples_of raw_sample samples_in unpacked row_sample file_order bits_of number_of
plane_of_strips = refl

-- a tile of two columns beside one that has one column of padding
abbrev tiles : List Segment
tiles =
    record {
      at = 0;
      length = 4;
      rect = record { top = 0; left = 0; bottom = 1; right = 2 };
      full_rows = 1;
      full_cols = 2;
    }
    ∷ record {
      at = 4;
      length = 4;
      rect = record { top = 0; left = 2; bottom = 1; right = 3 };
      full_rows = 1;
      full_cols = 2;
    }
    ∷ []

plane_of_tiles : (segments_plane (0 ∷ 1 ∷ 0 ∷ 2 ∷ 1 ∷ 3 ∷ 255 ∷ 255 ∷ []) (Packed Big 16)
    (record { rows = 1; cols = 3; planes = 1 }) tiles).samples ≡ 1 ∷ 2 ∷ 259 ∷ []
unfolding segments_plane samples_of raw_sample samples_in unpacked row_sample file_order bits_of number_of
plane_of_tiles = refl

-- three bytes are enough for a row of two samples of 12 bits, and not for two of 16
long_enough : fault_from (9 ∷ 0xAB ∷ 0xCD ∷ 0xEF ∷ 0x12 ∷ 0x34 ∷ 0x56 ∷ []) (Packed Little 12) 0 strips ≡ None
unfolding fault_from samples_in
long_enough = refl

too_short : fault_from (9 ∷ 0xAB ∷ 0xCD ∷ 0xEF ∷ 0x12 ∷ 0x34 ∷ 0x56 ∷ []) (Packed Little 16) 0 strips
    ≡ Some (SegmentRefused 0 (Short (record { needed = 4; had = 3 })))
unfolding fault_from samples_in
too_short = refl
