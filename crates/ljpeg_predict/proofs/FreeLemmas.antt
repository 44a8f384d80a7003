-- No code word of a scan's tables is a prefix of another one of its table.
use Rattle.std.proofs.Common.{◌≡◌, ℕ, zero, suc, ◌+◌, ◌*◌, ◌/◌, ◌%◌, ◌≤◌, ◌^◌, ◌||◌, ◌==◌, nat_eq, not, slice_index}
use Rattle.std.proofs.Common.{◌⊎◌, inl, inr, Bool, true, false, cond, eqb, ltb, List, [], ◌∷◌, length, map, take, drop}
use Rattle.std.proofs.Common.{sum, get_or, set, slice_set, Option, Some, None, is_some, unwrap_or, IfSome, find, nat_lt}
use Rattle.std.proofs.Common.{option_map, Result, Ok, Err, refl, sym, ap, ◌∙◌, subst, arith, length-take, length-drop}
use Rattle.std.specs.List.{starts_with}
use Rattle.std.proofs.lemmas.Bool.{cases_eq, cases_lt, ltb-false}
use Rattle.std.proofs.lemmas.List.{get_or-map, get_or-set_other, get_or-set_same, get_or_past, length-map, set_past}
use Rattle.ljpeg_huffman.specs.Words.{Table, IsPrefixFree, code_words, space_from, table_fault}
use Rattle.ljpeg_huffman.specs.declared.table.TableFault.TheVariants.{Category, Empty, Overfull, TooMany}
use Rattle.ljpeg_huffman.proofs.TableLemmas.{prefix_free_table}
use Rattle.ljpeg_predict.specs.Chain.{◌>>=◌}
use Rattle.ljpeg_predict.specs.Headers.{Numbered, Told, chosen_tables, frame_of, headers_from, has_other_component}
use Rattle.ljpeg_predict.specs.Headers.{headers_in, headers_of, interval_of, lacks_table, nothing_told, predictor_of}
use Rattle.ljpeg_predict.specs.Headers.{scan_of, segment_then, table_in, table_numbers, tables_from, tables_of}
use Rattle.ljpeg_predict.specs.Headers.{told_table, told_then}
use Rattle.ljpeg_predict.specs.Scans.{Scan, table_at}
use Rattle.ljpeg_predict.specs.Segments.{body_at, kind_of, marker_at}
use Rattle.ljpeg_predict.specs.declared.JpegFault.{JpegFault}
use Rattle.ljpeg_predict.specs.declared.JpegFault.TheVariants as fault
use Rattle.ljpeg_predict.specs.declared.scan.Predictor.{Predictor}
use Rattle.ljpeg_predict.specs.declared.headers.FrameHeader.{FrameHeader}
use Rattle.ljpeg_predict.specs.declared.segments.Kind.{Kind}
use Rattle.ljpeg_predict.specs.declared.segments.Kind.TheVariants as kind

-- ---- steps that were not refused

pub guard_ok : {X : Type 0} (b : Bool) (f : JpegFault) (r : Result X JpegFault) (x : X) → cond b (Err f) r ≡ Ok x
    → (b ≡ false) × (r ≡ Ok x)
guard_ok true f r x e = absurd (cc)
guard_ok false f r x e = (refl, e)

pub bind_ok : {X Y : Type 0} (r : Result X JpegFault) (next : X → Result Y JpegFault) (y : Y) → (r >>= next) ≡ Ok y
    → (x : X) × (r ≡ Ok x) × (next x ≡ Ok y)
bind_ok (Ok x) next y e = (x, refl, e)
bind_ok (Err f) next y e = absurd (cc)

abbrev pub ok : {X : Type 0} → X → Result X JpegFault
ok x = Ok x

pub ok_is : {X : Type 0} (x y : X) → ok x ≡ ok y → x ≡ y
ok_is x y e = cc

-- ---- one table

-- the last of the tests that `table_fault` makes
last_test : (a b c : Bool) (o : Option ℕ)
    → is_some (cond a (Some Empty)
    (cond b (Some TooMany) (unwrap_or (option_map (λ v. Some (Category v)) o) (cond c (Some Overfull) None)))) ≡ false
    → c ≡ false
last_test true b c o e = absurd (cc)
last_test false true c o e = absurd (cc)
last_test false false c (Some v) e = absurd (cc)
last_test false false true None e = absurd (cc)
last_test false false false None e = refl

no_fault_free : (counts values : List ℕ) → length counts ≡ 16 → is_some (table_fault counts values) ≡ false
    → IsPrefixFree (code_words counts values)
unfolding table_fault
no_fault_free counts values long e =
    prefix_free_table counts values long
    (ltb-false (2 ^ 16) (space_from 1 counts)
    (last_test (eqb (sum counts) 0) (ltb 256 (sum counts)) (ltb (2 ^ 16) (space_from 1 counts))
    (find (nat_lt 16) values) e))

pub table_free : (body : List ℕ) (n : Numbered) → table_in body ≡ Ok n → IsPrefixFree n.table
unfolding table_in
table_free body n e =
    let head = slice_index body 0 in
    let counts = take 16 (drop 1 body) in
    let values = take (sum counts) (drop 17 body) in
    let a = guard_ok (ltb (length body) 17) fault.HeaderLength _ n e in
    let b = guard_ok (ltb 0 (head / 16) || ltb 3 (head % 16)) fault.Table _ n a.1 in
    let c = guard_ok (ltb (length (drop 17 body)) (sum counts)) fault.HeaderLength _ n b.1 in
    let d = guard_ok (is_some (table_fault counts values)) fault.Table _ n c.1 in
    let is = ok_is (record {
      number = head % 16;
      table = code_words counts values;
      rest = drop (sum counts) (drop 17 body);
    }) n d.1 in
    let long : length counts ≡ 16 =
    length-take 16 (drop 1 body) ∙ omega (arith, length-drop 1 body, ltb-false (length body) 17 a.0) in
    subst IsPrefixFree (ap (λ (m : Numbered). m.table) is) (no_fault_free counts values long d.0)

-- ---- the tables that were told

-- each table that was told is free of prefixes
abbrev AreFree : List (Option Table) → Type 0
AreFree tables = (k : ℕ) → IfSome (told_table tables k) IsPrefixFree

nothing_free : AreFree nothing_told.tables
nothing_free zero = tt
nothing_free (suc zero) = tt
nothing_free (suc (suc zero)) = tt
nothing_free (suc (suc (suc zero))) = tt
nothing_free (suc (suc (suc (suc k)))) = tt

set_free : (tables : List (Option Table)) (number : ℕ) (table : Table) → AreFree tables → IsPrefixFree table
    → AreFree (slice_set tables number (Some table))
set_free tables number table free is k =
    elim (cases_eq k number) [
      | inr apart ↦ subst (λ o. IfSome o IsPrefixFree) (sym (get_or-set_other tables number k (Some table) None apart))
          (free k)
      | inl same ↦ elim (cases_lt number (length tables)) [
        | inl within ↦ subst (λ o. IfSome o IsPrefixFree)
            (sym (ap (λ n. get_or (set tables number (Some table)) n None) same ∙ get_or-set_same tables number
            (Some table) None within)) is
        | inr past ↦ subst (λ ts. IfSome (told_table ts k) IsPrefixFree)
            (sym (set_past tables number (Some table) past)) (free k)
      ]
    ]

-- a choice of two answers
pub chosen : {X : Type 0} (b : Bool) (r s : Result X JpegFault) (x : X) → cond b r s ≡ Ok x → (r ≡ Ok x) ⊎ (s ≡ Ok x)
chosen true r s x e = inl e
chosen false r s x e = inr e

tables_free : (fuel : ℕ) (told : List (Option Table)) (body : List ℕ) (tables : List (Option Table)) → AreFree told
    → tables_from fuel told body ≡ Ok tables → AreFree tables
unfolding tables_from
tables_free zero told body tables free e = absurd (cc)
tables_free (suc fuel) told body tables free e =
    let t = bind_ok (table_in body) _ tables e in
    let n = t.0 in
    let now = set_free told n.number n.table free (table_free body n t.1) in
    elim (chosen (eqb (length n.rest) 0) (Ok (slice_set told n.number (Some n.table)))
    (tables_from fuel (slice_set told n.number (Some n.table)) n.rest) tables t.2) [
      | inl last ↦ subst AreFree (ok_is _ tables last) now
      | inr more ↦ tables_free fuel (slice_set told n.number (Some n.table)) n.rest tables now more
    ]

-- ---- the scan

none_free : IsPrefixFree []
none_free i j d h k = absurd (omega arith)

told_free : (o : Option Table) → IfSome o IsPrefixFree → IsPrefixFree (unwrap_or o [])
told_free None free = none_free
told_free (Some t) free = free

chosen_free : (tables : List (Option Table)) (numbers : List ℕ) → AreFree tables → (place : ℕ)
    → IsPrefixFree (get_or (chosen_tables tables numbers) place [])
unfolding chosen_tables
chosen_free tables numbers free place =
    elim (cases_lt place (length numbers)) [
      | inl within ↦ subst IsPrefixFree
          (sym (get_or-map (λ n. unwrap_or (told_table tables n) []) numbers place 0 [] within))
          (told_free (told_table tables (get_or numbers place 0)) (free (get_or numbers place 0)))
      | inr past ↦
          let long : length (map (λ n. unwrap_or (told_table tables n) []) numbers) ≤ place = simp length-map past in
          subst IsPrefixFree (sym (get_or_past (map (λ n. unwrap_or (told_table tables n) []) numbers) place [] long))
          none_free
    ]

abbrev IsFree : Scan → Type 0
IsFree scan = (place : ℕ) → IsPrefixFree (table_at scan place)

abbrev told_scan : FrameHeader → List (Option Table) → List ℕ → Predictor → List ℕ → Scan
told_scan frame tables numbers predictor bytes = record {
  precision = frame.precision;
  lines = frame.lines;
  columns = frame.columns;
  tables = chosen_tables tables numbers;
  predictor = predictor;
  bytes = bytes;
}

scan_free : (frame : FrameHeader) (tables : List (Option Table)) (body bytes : List ℕ) (scan : Scan) → AreFree tables
    → scan_of frame tables body bytes ≡ Ok scan → IsFree scan
unfolding scan_of
scan_free frame tables body bytes scan free e =
    let count = slice_index body 0 in
    let numbers = take count (table_numbers body) in
    let a = guard_ok (ltb (length body) 4 || not (length body == 4 + 2 * count)) fault.HeaderLength _ scan e in
    let b = guard_ok (not (count == frame.components) || has_other_component body frame.ids count) fault.Components _
    scan a.1 in
    let c = guard_ok (lacks_table tables numbers) fault.NoTable _ scan b.1 in
    let last = λ (predictor : Predictor). cond (not (slice_index body (3 + 2 * count) % 16 == 0))
    (Err fault.PointTransform) (ok (told_scan frame tables numbers predictor bytes)) in
    let p = bind_ok (predictor_of (slice_index body (1 + 2 * count))) last scan c.1 in
    let d = guard_ok (not (slice_index body (3 + 2 * count) % 16 == 0)) fault.PointTransform _ scan p.2 in
    let is = ok_is (told_scan frame tables numbers p.0 bytes) scan d.1 in
    subst IsFree is (λ place. chosen_free tables numbers free (place % length (chosen_tables tables numbers)))

told_then_free : (fuel : ℕ) (k : Kind) (told : Told) (body bytes : List ℕ) (scan : Scan) → AreFree told.tables
    → ((t : Told) (rest : List ℕ) → AreFree t.tables → headers_from fuel t rest ≡ Ok scan → IsFree scan)
    → told_then k told body bytes (headers_from fuel) ≡ Ok scan → IsFree scan
told_then_free fuel kind.Frame told body bytes scan free next e = let t =
    bind_ok (frame_of body) _ scan e in next _ bytes free t.2
told_then_free fuel kind.Tables told body bytes scan free next e =
    let t = bind_ok (tables_of told.tables body) _ scan e in
    next _ bytes (tables_free (length body) told.tables body t.0 free t.1) t.2
told_then_free fuel kind.RestartInterval told body bytes scan free next e = let t =
    bind_ok (interval_of body) _ scan e in next told bytes free t.2
told_then_free fuel kind.PassedOver told body bytes scan free next e = next told bytes free e
told_then_free fuel (kind.Scan frame) told body bytes scan free next e =
    scan_free frame told.tables body bytes scan free e

headers_free : (fuel : ℕ) (told : Told) (bytes : List ℕ) (scan : Scan) → AreFree told.tables
    → headers_from fuel told bytes ≡ Ok scan → IsFree scan
unfolding headers_from segment_then
headers_free zero told bytes scan free e = absurd (cc)
headers_free (suc fuel) told bytes scan free e =
    let m = bind_ok (marker_at bytes) _ scan e in
    let k = bind_ok (kind_of told.frame m.0.0) _ scan m.2 in
    let b = bind_ok (body_at m.0.1) _ scan k.2 in
    told_then_free fuel k.0 told b.0.0 b.0.1 scan free (λ t rest f is. headers_free fuel t rest scan f is) b.2

-- the tables of a stream's scan
pub stream_free : (bytes : List ℕ) (scan : Scan) → headers_of bytes ≡ Ok scan → (place : ℕ)
    → IsPrefixFree (table_at scan place)
unfolding headers_of
stream_free bytes scan e =
    elim (chosen (starts_with nat_eq bytes (0xFF ∷ 0xD8 ∷ [])) (headers_in (drop 2 bytes)) (Err fault.NoStart) scan e) [
      | inl headers ↦ headers_free (length (drop 2 bytes)) nothing_told (drop 2 bytes) scan nothing_free headers
      | inr refused ↦ absurd (cc)
    ]
