-- Segments that were opened, and what is fetched of them.
use Rattle.std.proofs.Common.{mul-pos, ◌≡◌, ℕ, ◌+◌, ◌<◌, ◌≤◌, Bool, true, false, cond, eqb, List, [], Option, None}
use Rattle.std.proofs.Common.{Some, Result, Ok, get_or, length, slice_get, slice_index, option_map, refl, sym, ap, ◌∙◌}
use Rattle.std.proofs.Common.{subst, arith}
use Rattle.std.specs.Bool.{OnTrue}
use Rattle.std.specs.Result.{result_unwrap_or}
use Rattle.std.proofs.lemmas.Bool.{eqb-true}
use Rattle.std.proofs.lemmas.List.{length-map}
use Rattle.std.proofs.lemmas.Map.Keys.{any_passes_from_place}
use Rattle.std.proofs.lemmas.Option.{get_or_from_slice_get, same_Some, slice_get-map}
use Rattle.plane_view.specs.Lent.{AgreesWith, Lent, sample_at}
use Rattle.plane_view.specs.Rectangles.{HasPixel, has_pixel}
use Rattle.plane_view.specs.declared.Rect.{Rect}
use Rattle.plane_view.specs.declared.Shape.{Shape}
use Rattle.plane_view.proofs.Pixels.{has_pixel-true}
use Rattle.plane_view.proofs.Samples.{get_or-samples_of, length-samples_of}
use Rattle.stage_core.specs.Bases.{AreCells}
use Rattle.stage_core.specs.Planes.{IsPart, IsPlane}
use Rattle.dng_tags.specs.Facts.{AreParts, IsFrame, IsPart as IsPartOf}
use Rattle.dng_tags.specs.Raw.{coded_count, coded_place, coded_samples, coding_of, raw_sample, samples_in}
use Rattle.dng_tags.specs.Raw.{segments_plane}
use Rattle.tag_rules.specs.declared.faults.SegmentFault.{SegmentFault}
use Rattle.dng_tags.specs.declared.record.Coding.{Coding}
use Rattle.dng_tags.specs.declared.record.Coding.TheVariants.{LosslessJpeg, Packed}
use Rattle.dng_tags.specs.declared.record.Frame.{Frame}
use Rattle.dng_tags.specs.declared.record.Segment.{Segment}
use Rattle.dng_tags.proofs.RawLemmas.{raw_sample-at}
use Rattle.frame_segments.specs.inner.Buffers.{AreOpened, Holds, IsCoding, IsDecodable}
use Rattle.frame_segments.specs.Opened.{rects_of}

-- the segment of a cell
segment_from : (o : Option Segment) (rect : Rect) → option_map (λ segment. segment.rect) o ≡ Some rect
    → (segment : Segment) × (o ≡ Some segment) × (segment.rect ≡ rect)
segment_from None rect e = cc
segment_from (Some segment) rect e = (segment, refl, cc)

pub segment_of_cell : (segments : List Segment) (k : ℕ) (rect : Rect) → slice_get (rects_of segments) k ≡ Some rect
    → (segment : Segment) × (slice_get segments k ≡ Some segment) × (segment.rect ≡ rect)
segment_of_cell segments k rect at =
    segment_from (slice_get segments k) rect (sym (slice_get-map (λ segment. segment.rect) segments k) ∙ at)

pub cell_of_segment : (segments : List Segment) (k : ℕ) (segment : Segment) → slice_get segments k ≡ Some segment
    → slice_get (rects_of segments) k ≡ Some segment.rect
cell_of_segment segments k segment at =
    slice_get-map (λ segment. segment.rect) segments k ∙ ap (option_map (λ segment. segment.rect)) at

-- the cells of a frame that was read
pub cells_of_parts : (shape : Shape) (segments : List Segment) → AreParts shape segments
    → AreCells (rects_of segments) shape
cells_of_parts shape segments parts =
    let count = length-map segments (λ (segment : Segment). segment.rect) in
    record {
      some = omega (arith, parts.some);
      most = omega (arith, parts.most);
      plane = record {
        part = λ k rect at.
            let found = segment_of_cell segments k rect at in
            let segment = found.0 in
            let is = parts.part k segment found.1 in
            subst (λ (r : Rect). IsPart r shape) found.2 (record { some = is.some; inside = is.inside });
        covered = λ r c hr hc.
            let found = parts.covered r c hr hc in
            any_passes_from_place (has_pixel r c) (rects_of segments) found.0 found.1.rect
            (cell_of_segment segments found.0 found.1 found.2) (has_pixel-true r c found.1.rect found.3);
        apart = λ i k one other ati atk r c in_one in_other.
            let a = segment_of_cell segments i one ati in
            let b = segment_of_cell segments k other atk in
            parts.apart i k a.0 b.0 a.1 b.1 r c (subst (λ (x : Rect). HasPixel x r c) (sym a.2) in_one)
            (subst (λ (x : Rect). HasPixel x r c) (sym b.2) in_other);
      };
    }

-- the segment that is fetched for a cell
pub record IsFound (segments : List Segment) (k : ℕ) (rect : Rect) (segment : Segment) : Type 0 where
  pub at : slice_get segments k ≡ Some segment
  pub rect_is : segment.rect ≡ rect

pub found_cell : (segments items : List Segment) (cells : List Rect) (k : ℕ) (rect : Rect) (d : Segment)
    → rects_of segments ≡ cells → items ≡ segments → slice_get cells k ≡ Some rect
    → IsFound segments k rect (get_or items k d)
found_cell segments items cells k rect d are same at =
    let found = segment_of_cell segments k rect (ap (λ (rects : List Rect). slice_get rects k) are ∙ at) in
    let is : get_or items k d ≡ found.0 =
    ap (λ (xs : List Segment). get_or xs k d) same ∙ get_or_from_slice_get segments k found.0 d found.1 in
    subst (IsFound segments k rect) (sym is) (record { at = found.1; rect_is = found.2 })

pub on_equal : {P : Type 0} (m n : ℕ) → (m ≡ n → P) → OnTrue (eqb m n) P
on_equal m n f = on_true (eqb m n) (λ e. f (eqb-true m n e))
  where
    on_true : {Q : Type 0} (b : Bool) → (b ≡ true → Q) → OnTrue b Q
    on_true true g = g refl
    on_true false g = tt

-- the plane of opened segments
pub plane_planes : (bytes : List ℕ) (coding : Coding) (shape : Shape) (segments : List Segment)
    → (segments_plane bytes coding shape segments).planes ≡ 1
unfolding segments_plane
plane_planes bytes coding shape segments = refl

pub plane_has_shape : (bytes : List ℕ) (coding : Coding) (shape : Shape) (segments : List Segment) → shape.planes ≡ 1
    → IsPlane (segments_plane bytes coding shape segments) shape
unfolding segments_plane
plane_has_shape bytes coding shape segments one = record {
  whole = length-samples_of shape.rows shape.cols 1 _;
  shape = record { rows = refl; cols = refl; planes = sym one };
}

-- the buffer holds another segment
pub reopened : (bytes : List ℕ) (coding : Coding) (shape : Shape) (segments : List Segment) (old new : List ℕ)
    (held k : ℕ) (segment : Segment) → AreOpened bytes coding shape segments old held → length new ≡ length old
    → slice_get segments k ≡ Some segment → Holds new bytes coding segment → AreOpened bytes coding shape segments new k
reopened bytes coding shape segments old new held k segment opened same at holds = record {
  depth = opened.depth;
  limits = opened.limits;
  planes = opened.planes;
  cells = opened.cells;
  coded = opened.coded;
  fit = λ j other atj. let fits = opened.fit j other atj in
      record { inside = fits.inside; room = omega (arith, fits.room, same); some = fits.some; few = fits.few };
  decodable = opened.decodable;
  holds = λ other ato. let one : segment ≡ other = same_Some segment other (sym at ∙ ato) in
      subst (Holds new bytes coding) one holds;
}

-- what was fetched is the plane's
pub fetched_agrees : (bytes : List ℕ) (coding : Coding) (shape : Shape) (segments : List Segment)
    (buffer coded : List ℕ) (held k : ℕ) (segment : Segment) (rect : Rect) (L : Lent)
    → AreOpened bytes coding shape segments buffer held → IsFound segments k rect segment
    → samples_in bytes coding segment ≡ Ok coded → L.planes ≡ 1
    → ((r c p : ℕ) → HasPixel segment.rect r c → p < 1
    → sample_at L r c p ≡ slice_index coded (coded_place segment r c))
    → AgreesWith (segments_plane bytes coding shape segments) L rect
unfolding segments_plane
fetched_agrees bytes coding shape segments buffer coded held k segment rect L opened found same one pixels = record {
  planes = sym one;
  samples = λ r c p pixel hp.
      let here : HasPixel segment.rect r c = subst (λ (x : Rect). HasPixel x r c) (sym found.rect_is) pixel in
      let part = opened.cells.plane.part k segment.rect (cell_of_segment segments k segment found.at) in
      let raw : raw_sample bytes coding segments r c
      ≡ slice_index (coded_samples bytes coding segment) (coded_place segment r c) =
      raw_sample-at bytes coding segments k segment r c
      (λ i j a b ati atj ina inb. opened.cells.plane.apart i j a.rect b.rect (cell_of_segment segments i a ati)
      (cell_of_segment segments j b atj) r c ina inb)
      found.at here in
      get_or-samples_of shape.rows shape.cols 1 (λ r c p. raw_sample bytes coding segments r c) r c p
      (omega (arith, here.bottom, part.inside.bottom)) (omega (arith, here.right, part.inside.right)) hp
      ∙ raw
      ∙ ap (λ (answer : Result (List ℕ) SegmentFault). slice_index (result_unwrap_or answer [])
      (coded_place segment r c)) same
      ∙ sym (pixels r c p here hp);
}

-- how a frame's segments are coded
pub coding_is : (frame : Frame) → (8 ≤ frame.depth) × (frame.depth ≤ 16) → IsCoding (coding_of frame)
coding_is frame depth = by frame.lossless
  where
    by : (lossless : Bool) → IsCoding (cond lossless LosslessJpeg (Packed frame.order frame.depth))
    by true = tt
    by false = depth

-- some samples of a segment are coded
pub some_coded : (shape : Shape) (segment : Segment) → IsPartOf shape segment → 1 ≤ coded_count segment
some_coded shape segment part =
    mul-pos (omega (arith, part.some.rows, part.rows)) (omega (arith, part.some.cols, part.cols))

-- the segments of a frame, once all are decoded
pub are_opened : (bytes : List ℕ) (frame : Frame) (coding : Coding) (items : List Segment) (buffer : List ℕ) (held : ℕ)
    → IsFrame frame bytes → coding ≡ coding_of frame → items ≡ frame.segments
    → ((k : ℕ) (segment : Segment) → slice_get items k ≡ Some segment → coded_count segment ≤ length buffer)
    → ((k : ℕ) (segment : Segment) → slice_get items k ≡ Some segment → IsDecodable bytes coding segment)
    → ((k : ℕ) (segment : Segment) → k + 1 ≡ length items → slice_get items k ≡ Some segment
    → Holds buffer bytes coding segment)
    → held + 1 ≡ length items
    → AreOpened bytes coding frame.shape items buffer held
are_opened bytes frame coding items buffer held is coded same room decodable last count =
    let of_frame : (k : ℕ) (segment : Segment) → slice_get items k ≡ Some segment
    → slice_get frame.segments k ≡ Some segment =
    λ k segment at. subst (λ (xs : List Segment). slice_get xs k ≡ Some segment) same at in
    let shape = is.plannable.shape in
    record {
      depth = subst IsCoding (sym coded) (coding_is frame is.depth);
      limits = record {
        some_rows = shape.some_rows;
        rows = shape.rows;
        some_cols = shape.some_cols;
        cols = shape.cols;
        some_planes = omega (arith, shape.planes);
        planes = omega (arith, shape.planes);
      };
      planes = shape.planes;
      cells = subst (λ (xs : List Segment). AreCells (rects_of xs) frame.shape) (sym same)
          (cells_of_parts frame.shape frame.segments is.parts);
      coded = λ k segment at.
          let part = is.parts.part k segment (of_frame k segment at) in
          record {
            some = part.some;
            bottom = omega (arith, part.inside.bottom, shape.rows);
            right = omega (arith, part.inside.right, shape.cols);
            rows = part.rows;
            cols = part.cols;
            count = part.coded;
          };
      fit = λ k segment at.
          let part = is.parts.part k segment (of_frame k segment at) in
          record {
            inside = is.inside k segment (of_frame k segment at);
            room = room k segment at;
            some = some_coded frame.shape segment part;
            few = part.coded;
          };
      decodable = decodable;
      holds = λ segment at. last held segment count at;
    }
