-- Definitions for the contracts between functions of this crate: the buffer that segments are decoded into. This is
-- this project's own.
use Rattle.std.specs.Prelude.{◌≡◌, ℕ, ◌+◌, ◌≤◌, ⊤, List, length, slice_get, None, Some, Ok, take}
use Rattle.std.proofs.Props.{props}
use Rattle.plane_view.specs.Rectangles.{IsNonEmpty, height, width}
use Rattle.plane_view.specs.Shapes.{IsShape, max_samples, max_side}
use Rattle.plane_view.specs.declared.Shape.{Shape}
use Rattle.stage_core.specs.Bases.{AreCells}
use Rattle.dng_tags.specs.Raw.{coded_count, samples_in, segment_fault}
use Rattle.dng_tags.specs.declared.record.Coding.{Coding}
use Rattle.dng_tags.specs.declared.record.Coding.TheVariants.{LosslessJpeg, Packed}
use Rattle.dng_tags.specs.declared.record.Segment.{Segment}
use Rattle.frame_segments.specs.Opened.{rects_of}

-- packed samples have 8 to 16 bits
abbrev pub IsCoding : Coding → Type 0
IsCoding (Packed order depth) = (8 ≤ depth) × (depth ≤ 16)
IsCoding LosslessJpeg = ⊤

-- it has no more than one proof
pub IsCoding-prop : (coding : Coding) → IsProp (IsCoding coding)
IsCoding-prop (Packed order depth) = hlevel props
IsCoding-prop LosslessJpeg = hlevel props

-- all pixels of a segment are coded, within limits
pub record IsCoded (segment : Segment) : Type 0 where
  pub some : IsNonEmpty segment.rect
  pub bottom : segment.rect.bottom ≤ max_side
  pub right : segment.rect.right ≤ max_side
  pub rows : height segment.rect ≤ segment.full_rows
  pub cols : width segment.rect ≤ segment.full_cols
  pub count : coded_count segment ≤ max_samples

-- a segment lies in the bytes, and a buffer has room for what is coded
pub record Fits (bytes buffer : List ℕ) (segment : Segment) : Type 0 where
  pub inside : segment.at + segment.length ≤ length bytes
  pub room : coded_count segment ≤ length buffer
  pub some : 1 ≤ coded_count segment
  pub few : coded_count segment ≤ max_samples

-- the buffer begins with the coded samples of a segment
abbrev pub Holds : (buffer bytes : List ℕ) → Coding → Segment → Type 0
Holds buffer bytes coding segment = samples_in bytes coding segment ≡ Ok (take (coded_count segment) buffer)

-- a segment can be decoded
abbrev pub IsDecodable : List ℕ → Coding → Segment → Type 0
IsDecodable bytes coding segment = segment_fault bytes coding segment ≡ None

-- the segments make up a plane of this shape, each can be decoded into the buffer, and the buffer holds one of them
pub record AreOpened (bytes : List ℕ) (coding : Coding) (shape : Shape) (segments : List Segment) (buffer : List ℕ)
    (held : ℕ) : Type 0 where
  pub depth : IsCoding coding
  pub limits : IsShape shape
  pub planes : shape.planes ≡ 1
  pub cells : AreCells (rects_of segments) shape
  pub coded : (k : ℕ) (segment : Segment) → slice_get segments k ≡ Some segment → IsCoded segment
  pub fit : (k : ℕ) (segment : Segment) → slice_get segments k ≡ Some segment → Fits bytes buffer segment
  pub decodable : (k : ℕ) (segment : Segment) → slice_get segments k ≡ Some segment → IsDecodable bytes coding segment
  pub holds : (segment : Segment) → slice_get segments held ≡ Some segment → Holds buffer bytes coding segment
