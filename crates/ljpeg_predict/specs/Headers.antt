-- The headers up to a scan's data (ITU-T T.81, B.2), as lossless JPEG has them (B.2.4 and annex H).
use Rattle.std.specs.Prelude.{ℕ, zero, suc, ◌+◌, ◌*◌, ◌/◌, ◌%◌, ◌==◌, nat_eq, nat_lt, Bool, not, ◌||◌}
use Rattle.std.specs.Prelude.{if◌then◌else◌, List, [], ◌∷◌, length, map, sum, take, drop, slice_index, slice_index_or}
use Rattle.std.specs.Prelude.{slice_set, Option, None, Some, is_some, is_none, unwrap_or, Result, Ok, Err}
use Rattle.std.specs.List.{list_any, range_with_len, starts_with}
use Rattle.ljpeg_huffman.specs.Words.{Table, code_words, table_fault}
use Rattle.ljpeg_predict.specs.Chain.{◌>>=◌}
use Rattle.ljpeg_predict.specs.Scans.{Scan, sample_count}
use Rattle.ljpeg_predict.specs.Segments.{body_at, kind_of, marker_at, number_at}
use Rattle.ljpeg_predict.specs.declared.JpegFault.{JpegFault}
use Rattle.ljpeg_predict.specs.declared.JpegFault.TheVariants as fault
use Rattle.ljpeg_predict.specs.declared.headers.FrameHeader.{FrameHeader}
use Rattle.ljpeg_predict.specs.declared.scan.Predictor.{Predictor}
use Rattle.ljpeg_predict.specs.declared.scan.Predictor.TheVariants.{Left, Above, AboveLeft, Plane, LeftAndSlope}
use Rattle.ljpeg_predict.specs.declared.scan.Predictor.TheVariants.{AboveAndSlope, Mean}
use Rattle.ljpeg_predict.specs.declared.segments.Kind.{Kind}
use Rattle.ljpeg_predict.specs.declared.segments.Kind.TheVariants as kind

-- whether one of the components passes a test by its place, from 0 on
abbrev pub some_component : ℕ → (ℕ → Bool) → Bool
some_component count test = list_any test (range_with_len 0 count)

-- whether some component of a frame header's body has a horizontal or vertical sampling factor other than 1
-- (B.2.2)
unfoldable pub is_subsampled : List ℕ → ℕ → Bool
is_subsampled body count = some_component count (λ c. not (slice_index body (7 + 3 * c) == 0x11))

-- The frame header (B.2.2): precision, lines and samples a line, and of each component an identifier, sampling
-- factors of 1 and a table that isn't used here. The identifiers of four components are kept, 0 where there are fewer.
unfoldable pub frame_of : List ℕ → Result FrameHeader JpegFault
frame_of body =
    let count = slice_index body 5 in
    let id = λ (c : ℕ). slice_index body (6 + 3 * c) in
    if nat_lt (length body) 6 || not (length body == 6 + 3 * count) then Err fault.HeaderLength
    else (if nat_lt (slice_index body 0) 2 || nat_lt 16 (slice_index body 0) then Err fault.Precision
    else (if nat_lt count 1 || nat_lt 4 count then Err fault.Components
    else (if is_subsampled body count then Err fault.Sampling
    else Ok (record {
      precision = slice_index body 0;
      lines = number_at body 1;
      columns = number_at body 3;
      components = count;
      ids = id 0 ∷ id 1 ∷ id 2 ∷ id 3 ∷ [];
    }))))

-- a table of code words with its number, 0 to 3, and the bytes behind it
pub record Numbered : Type 0 where
  pub number : ℕ
  pub table : Table
  pub rest : List ℕ

-- the table that a body begins with (B.2.4.2): class and number in a byte, how many code words there are of each
-- length, and their categories
unfoldable pub table_in : List ℕ → Result Numbered JpegFault
table_in body =
    let counts = take 16 (drop 1 body) in
    let values = take (sum counts) (drop 17 body) in
    if nat_lt (length body) 17 then Err fault.HeaderLength
    else (if nat_lt 0 (slice_index body 0 / 16) || nat_lt 3 (slice_index body 0 % 16) then Err fault.Table
    else (if nat_lt (length (drop 17 body)) (sum counts) then Err fault.HeaderLength
    else (if is_some (table_fault counts values) then Err fault.Table
    else Ok (record {
      number = slice_index body 0 % 16;
      table = code_words counts values;
      rest = drop (sum counts) (drop 17 body);
    }))))

-- The tables by their number after one or more that a body tells; a later one of a number replaces a former one. The
-- bytes of the body are at least as many as its tables.
unfoldable pub tables_from : ℕ → List (Option Table) → List ℕ → Result (List (Option Table)) JpegFault
tables_from zero tables body = Err fault.HeaderLength
tables_from (suc more) tables body = do
  told ← table_in body
  if length told.rest == 0
      then Ok (slice_set tables told.number (Some told.table))
      else tables_from more (slice_set tables told.number (Some told.table)) told.rest

-- the tables after a body of tables (B.2.4.2)
abbrev pub tables_of : List (Option Table) → List ℕ → Result (List (Option Table)) JpegFault
tables_of tables body = tables_from (length body) tables body

-- the restart interval (B.2.4.4): only 0, which is none
unfoldable pub interval_of : List ℕ → Result (Unit {0}) JpegFault
interval_of body =
    if not (length body == 2) then Err fault.HeaderLength
    else (if not (number_at body 0 == 0) then Err fault.Restart else Ok tt)

-- the predictor of a selection value (table H.1)
abbrev pub predictor_of : ℕ → Result Predictor JpegFault
predictor_of selection =
    if selection == 1 then Ok Left
    else (if selection == 2 then Ok Above
    else (if selection == 3 then Ok AboveLeft
    else (if selection == 4 then Ok Plane
    else (if selection == 5 then Ok LeftAndSlope
    else (if selection == 6 then Ok AboveAndSlope
    else (if selection == 7 then Ok Mean else Err fault.Predictor))))))

-- the table of a number, if it was told
abbrev pub told_table : List (Option Table) → ℕ → Option Table
told_table tables number = slice_index_or tables number None

-- whether some component of a scan header's body is another than the frame has at that place (B.2.3)
unfoldable pub has_other_component : List ℕ → List ℕ → ℕ → Bool
has_other_component body ids count = some_component count (λ c. not (slice_index body (1 + 2 * c) == slice_index ids c))

-- the numbers of the tables of four components of a scan header's body, each in the upper four bits of a byte, 0 where
-- there are fewer (B.2.3)
abbrev pub table_numbers : List ℕ → List ℕ
table_numbers body =
    let number = λ (c : ℕ). slice_index body (2 + 2 * c) / 16 in number 0 ∷ number 1 ∷ number 2 ∷ number 3 ∷ []

-- whether one of some tables was never told
unfoldable pub lacks_table : List (Option Table) → List ℕ → Bool
lacks_table tables numbers = list_any (λ number. is_none (told_table tables number)) numbers

-- the tables of some numbers, each of which was told
unfoldable pub chosen_tables : List (Option Table) → List ℕ → List Table
chosen_tables tables numbers = map (λ number. unwrap_or (told_table tables number) []) numbers

-- The scan header (B.2.3): the components of the frame in its order, each with the number of its table in the upper
-- four bits of a byte, then the predictor, a byte that isn't looked at, and the point transform in the lower four bits
-- of a byte, which is to be 0. The data follow.
unfoldable pub scan_of : FrameHeader → List (Option Table) → List ℕ → List ℕ → Result Scan JpegFault
scan_of frame tables body bytes =
    let count = slice_index body 0 in
    let numbers = take count (table_numbers body) in
    if nat_lt (length body) 4 || not (length body == 4 + 2 * count) then Err fault.HeaderLength
    else (if not (count == frame.components) || has_other_component body frame.ids count then Err fault.Components
    else (if lacks_table tables numbers then Err fault.NoTable
    else predictor_of (slice_index body (1 + 2 * count)) >>= λ predictor.
    (if not (slice_index body (3 + 2 * count) % 16 == 0) then Err fault.PointTransform
    else Ok (record {
      precision = frame.precision;
      lines = frame.lines;
      columns = frame.columns;
      tables = chosen_tables tables numbers;
      predictor = predictor;
      bytes = bytes;
    }))))

-- what the segments before a scan have told: the frame header, and the tables by their number
pub record Told : Type 0 where
  pub frame : Option FrameHeader
  pub tables : List (Option Table)

-- no frame header and no table
abbrev pub nothing_told : Told
nothing_told = record { frame = None; tables = None ∷ None ∷ None ∷ None ∷ [] }

-- what a segment of a kind tells, and then what follows it
abbrev pub told_then : Kind → Told → List ℕ → List ℕ → (Told → List ℕ → Result Scan JpegFault) → Result Scan JpegFault
told_then kind.Frame told body bytes next =
    frame_of body >>= λ frame. next (record told { frame = Some frame }) bytes
told_then kind.Tables told body bytes next =
    tables_of told.tables body >>= λ tables. next (record told { tables = tables }) bytes
told_then kind.RestartInterval told body bytes next = interval_of body >>= λ none. next told bytes
told_then kind.PassedOver told body bytes next = next told bytes
told_then (kind.Scan frame) told body bytes next = scan_of frame told.tables body bytes

-- what the first marker and its segment tell, and then what follows them
unfoldable pub segment_then : Told → List ℕ → (Told → List ℕ → Result Scan JpegFault) → Result Scan JpegFault
segment_then told bytes next = do
  marker ← marker_at bytes
  kind ← kind_of told.frame marker.0
  segment ← body_at marker.1
  told_then kind told segment.0 segment.1 next

-- The headers from a marker on, up to the scan header. The bytes are at least as many as their markers.
unfoldable pub headers_from : ℕ → Told → List ℕ → Result Scan JpegFault
headers_from zero told bytes = Err fault.Ended
headers_from (suc more) told bytes = segment_then told bytes (headers_from more)

-- the headers of the segments behind the marker SOI
abbrev pub headers_in : List ℕ → Result Scan JpegFault
headers_in bytes = headers_from (length bytes) nothing_told bytes

-- the scan of a stream, which begins with the marker SOI (B.2.1), or the first refusal of its headers
unfoldable pub headers_of : List ℕ → Result Scan JpegFault
headers_of bytes =
    if starts_with nat_eq bytes (0xFF ∷ 0xD8 ∷ []) then headers_in (drop 2 bytes)
    else Err fault.NoStart

-- a scan of so many samples
unfoldable pub sized : ℕ → Scan → Result Scan JpegFault
sized want scan = if sample_count scan == want then Ok scan else Err (fault.Size (sample_count scan))

-- the scan of a stream of so many samples, or the first refusal
abbrev pub scan_in : List ℕ → ℕ → Result Scan JpegFault
scan_in bytes want = headers_of bytes >>= sized want
