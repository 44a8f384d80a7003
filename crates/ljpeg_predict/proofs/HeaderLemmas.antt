-- Tables and segments one after the other.
use Rattle.std.proofs.Common.{◌≡◌, ℕ, zero, suc, ◌<◌, ◌≤◌, true, false, cond, eqb, List, [], ◌∷◌, length, Option, Some}
use Rattle.std.proofs.Common.{None, Result, Ok, Err, slice_set, refl, sym, ap, ◌∙◌, arith}
use Rattle.ljpeg_huffman.specs.Words.{Table}
use Rattle.ljpeg_predict.specs.Headers.{Numbered, Told, headers_from, headers_in, segment_then, table_in, tables_from}
use Rattle.ljpeg_predict.specs.Headers.{tables_of, told_then}
use Rattle.ljpeg_predict.specs.Scans.{Scan}
use Rattle.ljpeg_predict.specs.Segments.{body_at, kind_of, marker_at}
use Rattle.ljpeg_predict.specs.declared.JpegFault.{JpegFault}
use Rattle.ljpeg_predict.specs.declared.JpegFault.TheVariants as fault
use Rattle.ljpeg_predict.specs.declared.headers.FrameHeader.{FrameHeader}
use Rattle.ljpeg_predict.specs.declared.segments.Kind.{Kind}
use Rattle.ljpeg_predict.specs.declared.segments.Kind.TheVariants as kind

-- ---- tables

-- the tables of what is left of a body, behind those that were told, are the tables of the body
pub record TablesLeft (tables : List (Option Table)) (body : List ℕ) (told : List (Option Table)) (left : List ℕ) :
    Type 0 where
  pub fuel : ℕ
  pub enough : length left ≤ fuel
  pub same : tables_from fuel told left ≡ tables_of tables body

one_table : (fuel : ℕ) (told : List (Option Table)) (left : List ℕ) (n : Numbered) → table_in left ≡ Ok n
    → tables_from (suc fuel) told left ≡ cond (eqb (length n.rest) 0) (Ok (slice_set told n.number (Some n.table)))
    (tables_from fuel (slice_set told n.number (Some n.table)) n.rest)
unfolding tables_from
one_table fuel told left n e = rw e refl

no_table : (fuel : ℕ) (told : List (Option Table)) (left : List ℕ) (f : JpegFault) → table_in left ≡ Err f
    → tables_from (suc fuel) told left ≡ Err f
unfolding tables_from
no_table fuel told left f e = rw e refl

nothing_left : (told : List (Option Table)) (left : List ℕ) → tables_from 0 told left ≡ Err fault.HeaderLength
unfolding tables_from
nothing_left told left = refl

nothing_in : (left : List ℕ) → length left ≤ 0 → table_in left ≡ Err fault.HeaderLength
unfolding table_in
nothing_in [] h = refl
nothing_in (x ∷ left) h = absurd (omega arith)

refused : (fuel : ℕ) (told : List (Option Table)) (left : List ℕ) (f : JpegFault) → length left ≤ fuel
    → table_in left ≡ Err f → tables_from fuel told left ≡ Err f
refused zero told left f h e =
    let none = nothing_in left h in
    let same : fault.HeaderLength ≡ f = cc in
    nothing_left told left ∙ ap Err same
refused (suc fuel) told left f h e = no_table fuel told left f e

pub tables_refused : (tables : List (Option Table)) (body : List ℕ) (told : List (Option Table)) (left : List ℕ)
    (f : JpegFault) → TablesLeft tables body told left → table_in left ≡ Err f → tables_of tables body ≡ Err f
tables_refused tables body told left f before e = sym before.same ∙ refused before.fuel told left f before.enough e

last : (fuel : ℕ) (told : List (Option Table)) (left : List ℕ) (n : Numbered) → length left ≤ fuel
    → length n.rest < length left → table_in left ≡ Ok n → eqb (length n.rest) 0 ≡ true
    → tables_from fuel told left ≡ Ok (slice_set told n.number (Some n.table))
last zero told left n h k e z = absurd (omega arith)
last (suc fuel) told left n h k e z = rw z at (one_table fuel told left n e)

pub tables_end : (tables : List (Option Table)) (body : List ℕ) (told : List (Option Table)) (left : List ℕ)
    (n : Numbered) → TablesLeft tables body told left → length n.rest < length left → table_in left ≡ Ok n
    → eqb (length n.rest) 0 ≡ true → tables_of tables body ≡ Ok (slice_set told n.number (Some n.table))
tables_end tables body told left n before k e z = sym before.same ∙ last before.fuel told left n before.enough k e z

next : (tables : List (Option Table)) (body : List ℕ) (fuel : ℕ) (told : List (Option Table)) (left : List ℕ)
    (n : Numbered) → length left ≤ fuel → tables_from fuel told left ≡ tables_of tables body
    → length n.rest < length left → table_in left ≡ Ok n → eqb (length n.rest) 0 ≡ false
    → TablesLeft tables body (slice_set told n.number (Some n.table)) n.rest
next tables body zero told left n h same k e z = absurd (omega arith)
next tables body (suc fuel) told left n h same k e z = record {
  fuel = fuel;
  enough = omega arith;
  same = sym (rw z at (one_table fuel told left n e)) ∙ same;
}

pub tables_next : (tables : List (Option Table)) (body : List ℕ) (told : List (Option Table)) (left : List ℕ)
    (n : Numbered) → TablesLeft tables body told left → length n.rest < length left → table_in left ≡ Ok n
    → eqb (length n.rest) 0 ≡ false → TablesLeft tables body (slice_set told n.number (Some n.table)) n.rest
tables_next tables body told left n before k e z =
    next tables body before.fuel told left n before.enough before.same k e z

-- ---- segments

-- the headers of what is left, behind what was told, are the headers of the bytes
pub record HeadersLeft (bytes : List ℕ) (told : Told) (left : List ℕ) : Type 0 where
  pub fuel : ℕ
  pub enough : length left ≤ fuel
  pub same : headers_from fuel told left ≡ headers_in bytes

pub one_segment : (fuel : ℕ) (told : Told) (left : List ℕ)
    → headers_from (suc fuel) told left ≡ segment_then told left (headers_from fuel)
unfolding headers_from
one_segment fuel told left = refl

no_segment : (told : Told) (left : List ℕ) → headers_from 0 told left ≡ Err fault.Ended
unfolding headers_from
no_segment told left = refl

no_marker : (told : Told) (left : List ℕ) (next : Told → List ℕ → Result Scan JpegFault) → length left ≤ 0
    → segment_then told left next ≡ Err fault.Ended
unfolding segment_then marker_at
no_marker told [] next h = refl
no_marker told (x ∷ left) next h = absurd (omega arith)

stops : (fuel : ℕ) (told : Told) (left : List ℕ) (answer : Result Scan JpegFault) → length left ≤ fuel
    → ((next : Told → List ℕ → Result Scan JpegFault) → segment_then told left next ≡ answer)
    → headers_from fuel told left ≡ answer
stops zero told left answer h e = no_segment told left ∙ sym (no_marker told left (headers_from 0) h)
    ∙ e (headers_from 0)
stops (suc fuel) told left answer h e = one_segment fuel told left ∙ e (headers_from fuel)

-- a segment that gives the answer, whatever follows
pub headers_end : (bytes : List ℕ) (told : Told) (left : List ℕ) (answer : Result Scan JpegFault)
    → HeadersLeft bytes told left
    → ((next : Told → List ℕ → Result Scan JpegFault) → segment_then told left next ≡ answer)
    → answer ≡ headers_in bytes
headers_end bytes told left answer before e = sym (stops before.fuel told left answer before.enough e) ∙ before.same

goes_on : (bytes : List ℕ) (fuel : ℕ) (told after : Told) (left rest : List ℕ) → length left ≤ fuel
    → headers_from fuel told left ≡ headers_in bytes → length rest < length left
    → ((next : Told → List ℕ → Result Scan JpegFault) → segment_then told left next ≡ next after rest)
    → HeadersLeft bytes after rest
goes_on bytes zero told after left rest h same k e = absurd (omega arith)
goes_on bytes (suc fuel) told after left rest h same k e = record {
  fuel = fuel;
  enough = omega arith;
  same = sym (e (headers_from fuel)) ∙ sym (one_segment fuel told left) ∙ same;
}

-- a segment that tells something, before the rest
pub headers_next : (bytes : List ℕ) (told after : Told) (left rest : List ℕ) → HeadersLeft bytes told left
    → length rest < length left
    → ((next : Told → List ℕ → Result Scan JpegFault) → segment_then told left next ≡ next after rest)
    → HeadersLeft bytes after rest
headers_next bytes told after left rest before k e =
    goes_on bytes before.fuel told after left rest before.enough before.same k e

-- what a segment gives by its marker, its kind and its body

pub refused_marker : (told : Told) (left : List ℕ) (f : JpegFault) → marker_at left ≡ Err f
    → (next : Told → List ℕ → Result Scan JpegFault) → segment_then told left next ≡ Err f
unfolding segment_then
refused_marker told left f e next = rw e refl

pub refused_kind : (told : Told) (left : List ℕ) (m : ℕ × List ℕ) (f : JpegFault) → marker_at left ≡ Ok m
    → kind_of told.frame m.0 ≡ Err f → (next : Told → List ℕ → Result Scan JpegFault)
    → segment_then told left next ≡ Err f
unfolding segment_then
refused_kind told left m f e k next = rw (e, k) refl

pub refused_body : (told : Told) (left : List ℕ) (m : ℕ × List ℕ) (k : Kind) (f : JpegFault) → marker_at left ≡ Ok m
    → kind_of told.frame m.0 ≡ Ok k → body_at m.1 ≡ Err f → (next : Told → List ℕ → Result Scan JpegFault)
    → segment_then told left next ≡ Err f
unfolding segment_then
refused_body told left m k f e is b next = rw (e, is, b) refl

pub whole_segment : (told : Told) (left : List ℕ) (m : ℕ × List ℕ) (k : Kind) (s : List ℕ × List ℕ)
    (answer : Result Scan JpegFault) → marker_at left ≡ Ok m → kind_of told.frame m.0 ≡ Ok k → body_at m.1 ≡ Ok s
    → (next : Told → List ℕ → Result Scan JpegFault) → told_then k told s.0 s.1 next ≡ answer
    → segment_then told left next ≡ answer
unfolding segment_then
whole_segment told left m k s answer e is b next a = rw (e, is, b) a

-- a frame header that a scan is behind was told
pub scan_frame : (frame : Option FrameHeader) (marker : ℕ) (f : FrameHeader) → kind_of frame marker ≡ Ok (kind.Scan f)
    → frame ≡ Some f
unfolding kind_of
scan_frame (Some frame) marker f e = grind arith
scan_frame None marker f e = grind arith
