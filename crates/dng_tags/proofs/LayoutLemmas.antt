-- An image cut into segments: each is a part of it, and each pixel is in exactly one.
use Rattle.std.proofs.Common.{◌≡◌, ℕ, ◌+◌, ◌*◌, ◌<◌, ◌≤◌, [], ◌∷◌, ◌++◌, map, cond, Bool, true, false, subst}
use Rattle.std.proofs.Common.{refl, sym, ◌∙◌, ap, arith}
use Rattle.std.specs.Int.{div_ceil}
use Rattle.std.specs.List.{range_with_len}
use Rattle.std.proofs.lemmas.Nat.{mul-le}
use Rattle.std.proofs.lemmas.List.FromFn.{map-range_with_len_more, length-map-range_with_len}
use Rattle.plane_view.specs.Cuts.{part}
use Rattle.plane_view.specs.Rectangles.{HasPixel, height}
use Rattle.plane_view.specs.declared.Rect.{Rect}
use Rattle.plane_view.specs.declared.Shape.{Shape}
use Rattle.plane_view.proofs.Cuts.{made_at, made_found, one_part, part_lies, part_non_empty, pixel_part, some_parts}
use Rattle.dng_tags.specs.Facts.{AreParts, IsPart, IsRawShape}
use Rattle.dng_tags.specs.Layout.{segment_at, segment_count, segments_in}
use Rattle.dng_tags.specs.inner.Layout.{IsChecked}
use Rattle.dng_tags.specs.declared.layout.Layout.{Layout}
use Rattle.dng_tags.specs.declared.record.Segment.{Segment}

-- one more segment
pub segments_more : (shape : Shape) (layout : Layout) (k : ℕ)
    → map (segment_at shape layout) (range_with_len 0 (k + 1))
    ≡ map (segment_at shape layout) (range_with_len 0 k) ++ segment_at shape layout k ∷ []
segments_more shape layout k = map-range_with_len_more (segment_at shape layout) 0 k k (omega arith)

-- a segment at an edge has at most as many rows as a whole one
full_rows_of : (padded : Bool) (whole here most : ℕ) → here ≤ whole → whole ≤ most
    → (here ≤ cond padded whole here) × (cond padded whole here ≤ whole)
full_rows_of true whole here most below fits = (below, omega arith)
full_rows_of false whole here most below fits = (omega arith, below)

-- segment k is a part of the image
pub segment_is_part : (shape : Shape) (layout : Layout) (k : ℕ) → IsChecked shape layout
    → k < segment_count shape layout.cut → IsPart shape (segment_at shape layout k)
unfolding segment_at
segment_is_part shape layout k checked within =
    let cut = layout.cut in
    let here = height (part shape cut.rows cut.cols k) in
    let full = full_rows_of cut.padded cut.rows here cut.rows (omega arith) (omega arith) in
    record {
      some = part_non_empty shape cut.rows cut.cols k checked.sides.some_rows checked.sides.some_cols within;
      inside = part_lies shape cut.rows cut.cols k;
      rows = full.0;
      cols = omega arith;
      coded = omega (
        arith,
        mul-le (cond cut.padded cut.rows here) cut.cols cut.rows cut.cols full.1 (omega arith),
        checked.coded,
      );
    }

-- the segment's rectangle
rect_of_segment : (shape : Shape) (layout : Layout) (k : ℕ)
    → (segment_at shape layout k).rect ≡ part shape layout.cut.rows layout.cut.cols k
unfolding segment_at
rect_of_segment shape layout k = refl

has_pixel_of : (shape : Shape) (layout : Layout) (k r c : ℕ) (segment : Segment) → segment ≡ segment_at shape layout k
    → HasPixel segment.rect r c → HasPixel (part shape layout.cut.rows layout.cut.cols k) r c
has_pixel_of shape layout k r c segment is pixel =
    let P : Rect → Type 0 = λ rect. HasPixel rect r c in
    subst P (ap (λ (s : Segment). s.rect) is ∙ rect_of_segment shape layout k) pixel

-- the segments of a layout are parts of the image
pub layout_parts : (shape : Shape) (layout : Layout) → IsRawShape shape → IsChecked shape layout
    → AreParts shape (segments_in shape layout)
unfolding segments_in
layout_parts shape layout raw checked =
    let cut = layout.cut in
    let at = segment_at shape layout in
    let count : ℕ = segment_count shape cut in
    let sides = checked.sides in
    let some : 1 * 1 ≤ count = mul-le 1 1 (div_ceil shape.rows cut.rows) (div_ceil shape.cols cut.cols)
    (some_parts shape.rows cut.rows raw.some_rows sides.some_rows)
    (some_parts shape.cols cut.cols raw.some_cols sides.some_cols) in
    record {
      some = omega (arith, some, length-map-range_with_len at 0 count);
      most = omega (arith, checked.most, length-map-range_with_len at 0 count);
      part = λ k segment there.
          let found = made_found at count k segment there in
          subst (λ s. IsPart shape s) (sym found.1) (segment_is_part shape layout k checked found.0);
      covered = λ r c row col.
          let there = pixel_part shape cut.rows cut.cols r c sides.some_rows sides.some_cols row col in
          let P : Rect → Type 0 = λ rect. HasPixel rect r c in (
            there.0,
            at there.0,
            made_at at count there.0 there.1,
            subst P (sym (rect_of_segment shape layout there.0)) there.2,
          );
      apart = λ i k one other first second r c here there.
          one_part shape cut.rows cut.cols i k r c
          (has_pixel_of shape layout i r c one (made_found at count i one first).1 here)
          (has_pixel_of shape layout k r c other (made_found at count k other second).1 there);
    }
