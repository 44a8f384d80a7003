-- The group of the segments: the strips or tiles, and that they lie in the file (TIFF 6.0, section 8, "StripOffsets",
-- "RowsPerStrip", "StripByteCounts", and section 15, "Tiled Images"). The limits are this project's own.
use Rattle.std.specs.Prelude.{ℕ, ◌+◌, ◌-◌, ◌*◌, ◌^◌, nat_le, nat_lt, ◌&&◌, if◌then◌else◌, Bool, true, false, min, List}
use Rattle.std.specs.Prelude.{map, length, slice_index, Option, None, Some, option_map, Result, Ok, Err, unwrap_or}
use Rattle.std.specs.List.{position, range_with_len}
use Rattle.plane_view.specs.Cuts.{part, part_count}
use Rattle.plane_view.specs.Rectangles.{height}
use Rattle.plane_view.specs.Shapes.{max_samples}
use Rattle.plane_view.specs.declared.Shape.{Shape}
use Rattle.text_line.specs.Chain.{and_then, ok_unless}
use Rattle.tag_rules.specs.Values.{Dirs, number_of, required_number_of, required_numbers_of}
use Rattle.tag_rules.specs.declared.faults.FrameFault.{FrameFault}
use Rattle.tag_rules.specs.declared.faults.FrameFault.TheVariants.{Layout as LayoutFault, Outside}
use Rattle.dng_tags.specs.declared.layout.Cut.{Cut}
use Rattle.dng_tags.specs.declared.layout.Layout.{Layout}
use Rattle.dng_tags.specs.declared.record.Segment.{Segment}
use Rattle.tag_rules.specs.declared.tags.Tag.TheVariants.{RowsPerStrip, StripByteCounts, StripOffsets, TileByteCounts}
use Rattle.tag_rules.specs.declared.tags.Tag.TheVariants.{TileLength, TileOffsets, TileWidth}

-- how many segments there are
abbrev pub segment_count : Shape → Cut → ℕ
segment_count shape cut = part_count shape cut.rows cut.cols

-- a layout that isn't too large, with an offset and a byte count for each segment
unfoldable pub checked_layout : Shape → Layout → Result Layout FrameFault
checked_layout shape layout =
    let count = segment_count shape layout.cut in
    if nat_le count 65536
    && nat_le (layout.cut.rows * layout.cut.cols) max_samples
    && nat_le count (length layout.offsets)
    && nat_le count (length layout.counts)
    then Ok layout else Err LayoutFault

-- a side of a tile
unfoldable pub checked_tile_side : ℕ → Result ℕ FrameFault
checked_tile_side side = if nat_le 1 side && nat_le side 16384 then Ok side else Err LayoutFault

-- tiles, whose width was found
unfoldable pub tiles_of : Dirs → ℕ → Result Layout FrameFault
tiles_of dirs tile_width =
    and_then (checked_tile_side tile_width) (λ cols.
    and_then (required_number_of dirs TileLength) (λ tile_length.
    and_then (checked_tile_side tile_length) (λ rows.
    and_then (required_numbers_of dirs TileOffsets) (λ offsets.
    and_then (required_numbers_of dirs TileByteCounts) (λ counts.
    Ok (record { cut = record { rows = rows; cols = cols; padded = true }; offsets = offsets; counts = counts }))))))

-- the rows of a strip, of which there is at least one: those of the image where the tag is absent
unfoldable pub strip_rows_of : Dirs → Shape → Result ℕ FrameFault
strip_rows_of dirs shape =
    and_then (number_of dirs RowsPerStrip) (λ found.
    let rows = unwrap_or found (2 ^ 32 - 1) in
    if nat_le 1 rows then Ok (min rows shape.rows) else Err LayoutFault)

-- strips
unfoldable pub strips_of : Dirs → Shape → Result Layout FrameFault
strips_of dirs shape =
    and_then (required_numbers_of dirs StripOffsets) (λ offsets.
    and_then (strip_rows_of dirs shape) (λ rows.
    and_then (required_numbers_of dirs StripByteCounts) (λ counts.
    Ok (record {
      cut = record { rows = rows; cols = shape.cols; padded = false };
      offsets = offsets;
      counts = counts;
    }))))

-- tiles where TileWidth is there, else strips
abbrev pub tiles_or_strips : Dirs → Shape → Option ℕ → Result Layout FrameFault
tiles_or_strips dirs shape (Some tile_width) = tiles_of dirs tile_width
tiles_or_strips dirs shape None = strips_of dirs shape

-- the layout: strips, or tiles where the tag of their width is there
unfoldable pub layout_of : Dirs → Shape → Result Layout FrameFault
layout_of dirs shape =
    and_then (number_of dirs TileWidth) (λ found.
    and_then (tiles_or_strips dirs shape found) (λ layout. checked_layout shape layout))

-- segment k. Its pixels are part k of the image: segments are numbered row by row, and clipped to the image. A tile is
-- coded at its full size, a strip at the size of its pixels.
unfoldable pub segment_at : Shape → Layout → ℕ → Segment
segment_at shape layout k =
    let rect = part shape layout.cut.rows layout.cut.cols k in
    record {
      at = slice_index layout.offsets k;
      length = slice_index layout.counts k;
      rect = rect;
      full_rows = if layout.cut.padded then layout.cut.rows else height rect;
      full_cols = layout.cut.cols;
    }

-- the segments, in the order of their numbers
unfoldable pub segments_in : Shape → Layout → List Segment
segments_in shape layout = map (segment_at shape layout) (range_with_len 0 (segment_count shape layout.cut))

-- whether a segment passes the end of a file of this many bytes
abbrev pub passes_end : ℕ → Segment → Bool
passes_end len segment = nat_lt len (segment.at + segment.length)

-- the group of the segments: none of them passes the end of the file
unfoldable pub segments_of : Dirs → Shape → Result (List Segment) FrameFault
segments_of dirs shape =
    and_then (layout_of dirs shape) (λ layout.
    let segments = segments_in shape layout in
    ok_unless (option_map Outside (position (passes_end (length dirs.bytes)) segments)) segments)
