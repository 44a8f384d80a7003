-- The frame definition: the record of what a file says of its frame, or the first refusal, group by group. The order of
-- the groups is this project's own.
use Rattle.std.specs.Prelude.{ℕ, List, Result, Ok}
use Rattle.tiff_dirs.specs.Header.{order_of}
use Rattle.text_line.specs.Chain.{and_then}
use Rattle.tag_rules.specs.Values.{Dirs}
use Rattle.tag_rules.specs.declared.faults.FrameFault.{FrameFault}
use Rattle.dng_tags.specs.Area.{active_of, crop_of, large_enough}
use Rattle.dng_tags.specs.Black.{levels_of}
use Rattle.dng_tags.specs.Colours.{colour_of}
use Rattle.dng_tags.specs.Form.{form_of}
use Rattle.dng_tags.specs.Layout.{segments_of}
use Rattle.plane_view.specs.Plane.{coloured}
use Rattle.dng_tags.specs.Listed.{area_shape, listed_of}
use Rattle.dng_tags.specs.Origin.{origin_of, tiff_of}
use Rattle.dng_tags.specs.Pattern.{pattern_of}
use Rattle.dng_tags.specs.declared.record.Frame.{Frame}

-- the groups behind the first one
unfoldable pub record_of : Dirs → Result Frame FrameFault
record_of dirs =
    and_then (form_of dirs) (λ form.
    and_then (segments_of dirs form.shape) (λ segments.
    and_then (pattern_of dirs) (λ cfa.
    and_then (listed_of dirs 1 form.shape) (λ first.
    and_then (active_of dirs first.left) (λ active.
    and_then (levels_of dirs form.depth active) (λ levels.
    and_then (listed_of dirs 2 (area_shape active)) (λ second.
    and_then (large_enough second.left) (λ _.
    and_then (listed_of dirs 3 (coloured second.left)) (λ third.
    and_then (crop_of dirs third.left.rows third.left.cols) (λ crop.
    and_then (colour_of dirs) (λ colour.
    Ok (record {
      shape = form.shape;
      depth = form.depth;
      lossless = form.lossless;
      order = order_of dirs.bytes;
      segments = segments;
      cfa = cfa;
      list1 = first.opcodes;
      active = active;
      levels = levels;
      list2 = second.opcodes;
      list3 = third.opcodes;
      crop = crop;
      colour = colour;
    }))))))))))))

-- the frame of a file of at most 2^28 bytes
unfoldable pub frame_of : List ℕ → Result Frame FrameFault
frame_of bytes =
    and_then (tiff_of bytes) (λ file.
    and_then (origin_of file) (λ dirs. record_of dirs))
