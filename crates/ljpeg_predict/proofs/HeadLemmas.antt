-- The headers that the encoder writes tell the scan that it writes.
use Rattle.std.proofs.Common.{◌≡◌, ℕ, suc, ◌+◌, ◌-◌, ◌*◌, ◌/◌, ◌%◌, ◌≤◌, false, eqb, ltb, ◌||◌, List, [], ◌∷◌, ◌++◌}
use Rattle.std.proofs.Common.{length, length-append, take, drop, Option, Some, None, Result, Ok, refl, ap, ap₂, ◌∙◌}
use Rattle.std.proofs.Common.{arith}
use Rattle.std.proofs.Math.Seq.{drop-append_seam, take-append_seam}
use Rattle.std.proofs.lemmas.Bool.{cond-false, le-ltb}
use Rattle.ljpeg_huffman.specs.Words.{Table, space_from, table_fault}
use Rattle.ljpeg_predict.specs.Chain.{◌>>=◌}
use Rattle.ljpeg_predict.specs.Encoding.{encoder_table, head, written_scan}
use Rattle.ljpeg_predict.specs.Headers.{Told, chosen_tables, frame_of, has_other_component, headers_from, headers_of}
use Rattle.ljpeg_predict.specs.Headers.{is_subsampled, lacks_table, nothing_told, predictor_of, scan_of, table_in}
use Rattle.ljpeg_predict.specs.Headers.{tables_from, tables_of, told_then}
use Rattle.ljpeg_predict.specs.Scans.{Scan}
use Rattle.ljpeg_predict.specs.Segments.{body_at, code_at, kind_of, marker_at}
use Rattle.ljpeg_predict.specs.declared.JpegFault.{JpegFault}
use Rattle.ljpeg_predict.specs.declared.headers.FrameHeader.{FrameHeader}
use Rattle.ljpeg_predict.specs.declared.scan.Predictor.{Predictor}
use Rattle.ljpeg_predict.specs.declared.segments.Kind.{Kind}
use Rattle.ljpeg_predict.specs.declared.segments.Kind.TheVariants as kind
use Rattle.ljpeg_predict.proofs.HeaderLemmas.{one_segment, whole_segment}

-- a marker with no fill bytes
marker_is : (code : ℕ) (rest : List ℕ) → eqb code 255 ≡ false → marker_at (255 ∷ code ∷ rest) ≡ Ok (code, rest)
unfolding marker_at code_at
marker_is code rest h = cond-false _ _ _ h

-- a body and what follows it
body_is : (upper lower : ℕ) (body rest : List ℕ) → 256 * upper + lower ≡ length body + 2
    → body_at (upper ∷ lower ∷ (body ++ rest)) ≡ Ok (body, rest)
unfolding body_at
body_is upper lower body rest e =
    let bytes = upper ∷ lower ∷ (body ++ rest) in
    let size : length bytes ≡ length body + length rest + 2 = omega (arith, length-append body rest) in
    let two : length body + 2 ≡ suc (suc (length body)) = omega arith in
    let short : 256 * upper + lower - 2 ≡ length body = omega arith in
    cond-false _ _ _ (le-ltb (length bytes) 2 (omega arith))
    ∙ cond-false _ _ _ (le-ltb (256 * upper + lower) 2 (omega arith))
    ∙ cond-false _ _ _ (le-ltb (length bytes) (256 * upper + lower) (omega (arith, size)))
    ∙ ap₂ (λ m n. Ok (take m (body ++ rest), drop n bytes)) short e
    ∙ ap (λ n. Ok (take (length body) (body ++ rest), drop n bytes)) two
    ∙ ap₂ (λ x y. Ok (x, y)) (take-append_seam body rest) (drop-append_seam body rest)

-- one segment after the other
step : (fuel : ℕ) (told : Told) (code : ℕ) (k : Kind) (upper lower : ℕ) (body rest : List ℕ)
    (answer : Result Scan JpegFault) → eqb code 255 ≡ false → kind_of told.frame code ≡ Ok k
    → 256 * upper + lower ≡ length body + 2
    → told_then k told body rest (headers_from fuel) ≡ answer
    → headers_from (suc fuel) told (255 ∷ code ∷ upper ∷ lower ∷ (body ++ rest)) ≡ answer
step fuel told code k upper lower body rest answer h is e then =
    one_segment fuel told (255 ∷ code ∷ upper ∷ lower ∷ (body ++ rest))
    ∙ whole_segment told (255 ∷ code ∷ upper ∷ lower ∷ (body ++ rest)) (code, upper ∷ lower ∷ (body ++ rest)) k
    (body, rest) answer (marker_is code (upper ∷ lower ∷ (body ++ rest)) h) is (body_is upper lower body rest e)
    (headers_from fuel) then

-- the two bytes of a number
two_bytes : (n : ℕ) → 256 * (n / 256) + n % 256 ≡ n
two_bytes n = omega arith

module _ (precision lines columns selection : ℕ) (predictor : Predictor) (tail : List ℕ) (low : 2 ≤ precision)
    (high : precision ≤ 16) (chosen : predictor_of selection ≡ Ok predictor) where
  abbrev frame_body : List ℕ
  frame_body = precision ∷ lines / 256 ∷ lines % 256 ∷ columns / 256 ∷ columns % 256 ∷ 1 ∷ 1 ∷ 17 ∷ 0 ∷ []

  abbrev table_body : List ℕ
  table_body = 0 ∷ 0 ∷ 0 ∷ 0 ∷ 14 ∷ 3 ∷ 0 ∷ 0 ∷ 0 ∷ 0 ∷ 0 ∷ 0 ∷ 0 ∷ 0 ∷ 0 ∷ 0 ∷ 0 ∷ 0 ∷ 1 ∷ 2 ∷ 3 ∷ 4 ∷ 5 ∷ 6 ∷ 7 ∷ 8
      ∷ 9 ∷ 10 ∷ 11 ∷ 12 ∷ 13 ∷ 14 ∷ 15 ∷ 16 ∷ []

  abbrev scan_body : List ℕ
  scan_body = 1 ∷ 1 ∷ 0 ∷ selection ∷ 0 ∷ 0 ∷ []

  abbrev behind_tables : List ℕ
  behind_tables = 255 ∷ 218 ∷ 0 ∷ 8 ∷ (scan_body ++ tail)

  abbrev behind_frame : List ℕ
  behind_frame = 255 ∷ 196 ∷ 0 ∷ 36 ∷ (table_body ++ behind_tables)

  abbrev frame : FrameHeader
  frame = record { precision = precision; lines = lines; columns = columns; components = 1; ids = 1 ∷ 0 ∷ 0 ∷ 0 ∷ [] }

  abbrev tables : List (Option Table)
  tables = Some encoder_table ∷ None ∷ None ∷ None ∷ []

  frame_is : frame_of frame_body ≡ Ok frame
  unfolding frame_of is_subsampled
  frame_is =
      cond-false (ltb precision 2 || ltb 16 precision) _ _
      (ap₂ (λ x y. x || y) (le-ltb precision 2 low) (le-ltb 16 precision high))
      ∙ ap₂ (λ l c. Ok (record {
        precision = precision;
        lines = l;
        columns = c;
        components = 1;
        ids = 1 ∷ 0 ∷ 0 ∷ 0 ∷ [];
      })) (two_bytes lines) (two_bytes columns)

  tables_are : tables_of (None ∷ None ∷ None ∷ None ∷ []) table_body ≡ Ok tables
  unfolding tables_from table_in table_fault space_from encoder_table
  tables_are = refl

  abbrev last_check : Predictor → Result Scan JpegFault
  last_check p = Ok (written_scan precision lines columns p tail)

  scan_is : scan_of frame tables scan_body tail ≡ Ok (written_scan precision lines columns predictor tail)
  unfolding scan_of has_other_component lacks_table chosen_tables
  scan_is = ap (λ r. r >>= last_check) chosen

  frame_kind : kind_of None 195 ≡ Ok kind.Frame
  unfolding kind_of
  frame_kind = refl

  tables_kind : kind_of (Some frame) 196 ≡ Ok kind.Tables
  unfolding kind_of
  tables_kind = refl

  scan_kind : kind_of (Some frame) 218 ≡ Ok (kind.Scan frame)
  unfolding kind_of
  scan_kind = refl

  abbrev scan : Scan
  scan = written_scan precision lines columns predictor tail

  from_scan : (fuel : ℕ) → headers_from (suc fuel) (record { frame = Some frame; tables = tables }) behind_tables
      ≡ Ok scan
  from_scan fuel = step fuel _ 218 (kind.Scan frame) 0 8 scan_body tail (Ok scan) refl scan_kind refl scan_is

  from_tables : (fuel : ℕ) → headers_from (suc (suc fuel))
      (record { frame = Some frame; tables = None ∷ None ∷ None ∷ None ∷ [] }) behind_frame ≡ Ok scan
  from_tables fuel = step (suc fuel) _ 196 kind.Tables 0 36 table_body behind_tables (Ok scan) refl tables_kind refl
      (ap (λ r. r >>= λ ts. headers_from (suc fuel) (record { frame = Some frame; tables = ts }) behind_tables)
      tables_are ∙ from_scan fuel)

  from_frame : (fuel : ℕ) → headers_from (suc (suc (suc fuel))) nothing_told
      (255 ∷ 195 ∷ 0 ∷ 11 ∷ (frame_body ++ behind_frame)) ≡ Ok scan
  from_frame fuel = step (suc (suc fuel)) nothing_told 195 kind.Frame 0 11 frame_body behind_frame
      (Ok scan) refl frame_kind refl
      (ap (λ r. r >>= λ f. headers_from (suc (suc fuel))
      (record { frame = Some f; tables = None ∷ None ∷ None ∷ None ∷ [] }) behind_frame) frame_is ∙ from_tables fuel)

  pub written_headers : headers_of (head precision lines columns selection ++ tail) ≡ Ok scan
  unfolding headers_of
  written_headers = from_frame _
