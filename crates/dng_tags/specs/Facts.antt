-- What holds of the record of each frame that is read. The limits are this project's own.
use Rattle.std.specs.Prelude.{◌≡◌, ℕ, ◌+◌, ◌*◌, ◌<◌, ◌≤◌, ℤ, pos, ◌<ℤ◌, ◌⊎◌, All, List, length, slice_get}
use Rattle.std.specs.Prelude.{slice_index, Option, None, Some, IfSome}
use Rattle.plane_view.specs.Plane.{coloured}
use Rattle.plane_view.specs.Rectangles.{HasPixel, IsNonEmpty, LiesIn, height, whole_rect, width}
use Rattle.plane_view.specs.Shapes.{max_samples, max_side}
use Rattle.plane_view.specs.declared.Shape.{Shape}
use Rattle.tiff_dirs.specs.Header.{order_of}
use Rattle.dng_tags.specs.Black.{span_of}
use Rattle.dng_tags.specs.Listed.{after_list1, after_list2, after_list3, area_shape}
use Rattle.dng_tags.specs.Pattern.{patterns}
use Rattle.opcode_list.specs.Params.{CanRunIn}
use Rattle.opcode_list.specs.Trims.{first_misfit}
use Rattle.tag_rules.specs.Quantities.{AreWithin}
use Rattle.std.specs.List.{Contains}
use Rattle.dng_tags.specs.declared.record.Colour.{Colour}
use Rattle.dng_tags.specs.declared.record.Frame.{Frame}
use Rattle.dng_tags.specs.declared.record.Levels.{Levels}
use Rattle.dng_tags.specs.declared.record.Segment.{Segment}

-- a raw image's shape
pub record IsRawShape (shape : Shape) : Type 0 where
  pub some_rows : 1 ≤ shape.rows
  pub rows : shape.rows ≤ max_side
  pub some_cols : 1 ≤ shape.cols
  pub cols : shape.cols ≤ max_side
  pub planes : shape.planes ≡ 1
  pub area : shape.rows * shape.cols ≤ max_samples

-- a segment of an image: its pixels lie in the image, and in what is coded of it
pub record IsPart (shape : Shape) (segment : Segment) : Type 0 where
  pub some : IsNonEmpty segment.rect
  pub inside : LiesIn segment.rect (whole_rect shape.rows shape.cols)
  pub rows : height segment.rect ≤ segment.full_rows
  pub cols : width segment.rect ≤ segment.full_cols
  pub coded : segment.full_rows * segment.full_cols ≤ max_samples

-- the segments of an image: each pixel is in exactly one
pub record AreParts (shape : Shape) (segments : List Segment) : Type 0 where
  pub some : 1 ≤ length segments
  pub most : length segments ≤ 65536
  pub part : (k : ℕ) (segment : Segment) → slice_get segments k ≡ Some segment → IsPart shape segment
  pub covered : (r c : ℕ) → r < shape.rows → c < shape.cols
      → (k : ℕ) × (segment : Segment) × (slice_get segments k ≡ Some segment) × HasPixel segment.rect r c
  pub apart : (i k : ℕ) (one other : Segment) → slice_get segments i ≡ Some one → slice_get segments k ≡ Some other
      → (r c : ℕ) → HasPixel one.rect r c → HasPixel other.rect r c → i ≡ k

-- no segment passes the end of a file of this many bytes
abbrev pub LieWithin : ℕ → List Segment → Type 0
LieWithin len segments = (k : ℕ) (segment : Segment) → slice_get segments k ≡ Some segment
    → segment.at + segment.length ≤ len

-- a pattern of black levels
pub record IsBlackPattern (levels : Levels) : Type 0 where
  pub some_rows : 1 ≤ levels.black_rows
  pub rows : levels.black_rows ≤ 8
  pub some_cols : 1 ≤ levels.black_cols
  pub cols : levels.black_cols ≤ 8
  pub count : length levels.black ≡ levels.black_rows * levels.black_cols
  pub within : AreWithin 16777216 levels.black

-- what this many rows or columns add
pub record AreDeltas (deltas : List ℤ) (count : ℕ) : Type 0 where
  pub none_or_all : (length deltas ≡ 0) ⊎ (length deltas ≡ count)
  pub within : AreWithin 16777216 deltas

-- levels of an active area of this many rows and columns, each in its range
pub record AreRanged (levels : Levels) (rows cols : ℕ) : Type 0 where
  pub table : length levels.table ≤ 65536
  pub pattern : IsBlackPattern levels
  pub delta_h : AreDeltas levels.delta_h cols
  pub delta_v : AreDeltas levels.delta_v rows
  pub white : (1 ≤ levels.white) × (levels.white ≤ 65535)

-- such levels, whose white is above every black
pub record AreLevels (levels : Levels) (rows cols : ℕ) : Type 0 where
  pub ranged : AreRanged levels rows cols
  pub span : pos 0 <ℤ span_of levels rows cols

-- a matrix, where it is there
abbrev pub IsMatrix : Option (List ℤ) → Type 0
IsMatrix matrix = IfSome matrix (AreWithin 1048576)

-- gains of 1 to 2^20, and forward matrices in their range
pub record AreColours (colour : Colour) : Type 0 where
  pub gains : (k : ℕ) → k < 3 → (1 ≤ slice_index colour.gains k) × (slice_index colour.gains k ≤ 1048576)
  pub forward1 : IsMatrix colour.forward1
  pub forward2 : IsMatrix colour.forward2

-- a frame whose lists, areas, levels, pattern and colours are in their ranges, so that its stages can be planned
pub record IsPlannable (frame : Frame) : Type 0 where
  pub shape : IsRawShape frame.shape
  pub pattern : Contains patterns frame.cfa
  pub list1 : All (CanRunIn 1) frame.list1
  pub few1 : length frame.list1 ≤ 16
  pub fit1 : first_misfit 0 frame.list1 frame.shape ≡ None
  pub active_some : IsNonEmpty frame.active
  pub active : LiesIn frame.active (whole_rect (after_list1 frame).rows (after_list1 frame).cols)
  pub levels : AreRanged frame.levels (height frame.active) (width frame.active)
  pub list2 : All (CanRunIn 2) frame.list2
  pub few2 : length frame.list2 ≤ 16
  pub fit2 : first_misfit 0 frame.list2 (area_shape frame.active) ≡ None
  pub rows : 4 ≤ (after_list2 frame).rows
  pub cols : 4 ≤ (after_list2 frame).cols
  pub list3 : All (CanRunIn 3) frame.list3
  pub few3 : length frame.list3 ≤ 16
  pub fit3 : first_misfit 0 frame.list3 (coloured (after_list2 frame)) ≡ None
  pub crop_some : IsNonEmpty frame.crop
  pub crop : LiesIn frame.crop (whole_rect (after_list3 frame).rows (after_list3 frame).cols)
  pub colour : AreColours frame.colour

-- a frame that was read from a file: its segments lie in the file, and its white above every black
pub record IsFrame (frame : Frame) (bytes : List ℕ) : Type 0 where
  pub plannable : IsPlannable frame
  pub depth : (8 ≤ frame.depth) × (frame.depth ≤ 16)
  pub order : frame.order ≡ order_of bytes
  pub parts : AreParts frame.shape frame.segments
  pub inside : LieWithin (length bytes) frame.segments
  pub levels : AreLevels frame.levels (height frame.active) (width frame.active)
