-- The raw plane of a frame, and which of its segments can't be decoded (TIFF 6.0, section 8, "StripOffsets", and
-- section 15, "Tiled Images"; DNG 1.6, chapter 3, "BitsPerSample" and "Compression"; ITU-T T.81, annex H). That
-- segments are looked at in their order is this project's own.
use Rattle.std.specs.Prelude.{ℕ, ◌+◌, ◌-◌, ◌*◌, nat_lt, if◌then◌else◌, List, [], ◌∷◌, length, slice_index, slice_range}
use Rattle.std.specs.Prelude.{Option, None, Some, Result, Ok, Err}
use Rattle.std.specs.Result.{result_err, result_unwrap_or}
use Rattle.std.specs.List.{find}
use Rattle.std.specs.Option.{option_map_or}
use Rattle.plane_view.specs.Plane.{Plane, plane_of}
use Rattle.plane_view.specs.Rectangles.{has_pixel}
use Rattle.plane_view.specs.declared.Shape.{Shape}
use Rattle.strip_unpack.specs.Samples.{needed_bytes, unpacked}
use Rattle.ljpeg_predict.specs.Decoded.{decoded}
use Rattle.ljpeg_predict.specs.declared.JpegFault.{JpegFault}
use Rattle.tiff_dirs.specs.declared.Order.{Order}
use Rattle.tag_rules.specs.declared.faults.FrameFault.{FrameFault}
use Rattle.tag_rules.specs.declared.faults.FrameFault.TheVariants.{Segment as SegmentRefused}
use Rattle.tag_rules.specs.declared.faults.SegmentFault.{SegmentFault}
use Rattle.tag_rules.specs.declared.faults.SegmentFault.TheVariants.{Jpeg, Short}
use Rattle.dng_tags.specs.declared.record.Coding.{Coding}
use Rattle.dng_tags.specs.declared.record.Coding.TheVariants.{LosslessJpeg, Packed}
use Rattle.dng_tags.specs.declared.record.Frame.{Frame}
use Rattle.dng_tags.specs.declared.record.Segment.{Segment}

-- the bytes of a segment
abbrev pub segment_bytes : List ℕ → Segment → List ℕ
segment_bytes bytes segment = slice_range bytes segment.at (segment.at + segment.length)

-- how many samples of a segment are coded
abbrev pub coded_count : Segment → ℕ
coded_count segment = segment.full_rows * segment.full_cols

-- how the samples of a frame's segments are coded
abbrev pub coding_of : Frame → Coding
coding_of frame = if frame.lossless then LosslessJpeg else Packed frame.order frame.depth

-- the samples that are packed in a segment's bytes, where there are enough
abbrev pub packed_samples : List ℕ → Order → (depth : ℕ) → Segment → Result (List ℕ) SegmentFault
packed_samples bytes order depth segment =
    let needed = needed_bytes depth segment.full_rows segment.full_cols in
    if nat_lt (length bytes) needed
    then Err (Short (record { needed = needed; had = length bytes }))
    else Ok (unpacked order depth segment.full_rows segment.full_cols bytes)

-- the samples of a lossless JPEG stream
abbrev pub jpeg_samples : Result (List ℕ) JpegFault → Result (List ℕ) SegmentFault
jpeg_samples (Ok samples) = Ok samples
jpeg_samples (Err fault) = Err (Jpeg fault)

-- the coded samples of a segment, row by row, or why it can't be decoded
unfoldable pub samples_in : List ℕ → Coding → Segment → Result (List ℕ) SegmentFault
samples_in bytes (Packed order depth) segment = packed_samples (segment_bytes bytes segment) order depth segment
samples_in bytes LosslessJpeg segment = jpeg_samples (decoded (segment_bytes bytes segment) (coded_count segment))

-- the coded samples of a segment that can be decoded
abbrev pub coded_samples : List ℕ → Coding → Segment → List ℕ
coded_samples bytes coding segment = result_unwrap_or (samples_in bytes coding segment) []

-- where the sample of the pixel at row r, column c of the image stands among the coded samples of its segment
abbrev pub coded_place : Segment → (r c : ℕ) → ℕ
coded_place segment r c = (r - segment.rect.top) * segment.full_cols + (c - segment.rect.left)

-- the raw sample at row r, column c of the image, from the segment whose rectangle has the pixel
unfoldable pub raw_sample : List ℕ → Coding → List Segment → (r c : ℕ) → ℕ
raw_sample bytes coding segments r c =
    option_map_or (λ segment. slice_index (coded_samples bytes coding segment) (coded_place segment r c))
    (find (λ segment. has_pixel r c segment.rect) segments) 0

-- the plane of an image's segments
unfoldable pub segments_plane : List ℕ → Coding → Shape → List Segment → Plane
segments_plane bytes coding shape segments =
    plane_of shape.rows shape.cols 1 (λ r c p. raw_sample bytes coding segments r c)

-- the raw plane
abbrev pub raw : List ℕ → Frame → Plane
raw bytes frame = segments_plane bytes (coding_of frame) frame.shape frame.segments

-- why a segment can't be decoded, if it can't be
abbrev pub segment_fault : List ℕ → Coding → Segment → Option SegmentFault
segment_fault bytes coding segment = result_err (samples_in bytes coding segment)

-- the refusal of a segment that can't be decoded, else that of a later one
abbrev pub refused_or : ℕ → Option SegmentFault → Option FrameFault → Option FrameFault
refused_or k (Some why) later = Some (SegmentRefused k why)
refused_or k None later = later

-- the refusal of the first segment that can't be decoded, where the first segment has the number k
unfoldable pub fault_from : List ℕ → Coding → (k : ℕ) → List Segment → Option FrameFault
fault_from bytes coding k [] = None
fault_from bytes coding k (segment ∷ segments) =
    refused_or k (segment_fault bytes coding segment) (fault_from bytes coding (k + 1) segments)

-- the last step of the frame definition: the refusal of the first segment that can't be decoded, if there is one
abbrev pub undecoded : List ℕ → Frame → Option FrameFault
undecoded bytes frame = fault_from bytes (coding_of frame) 0 frame.segments
