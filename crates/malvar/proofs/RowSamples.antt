-- A row's sample, from five rows of a lent part of a plane, is the demosaiced sample.
use Rattle.std.proofs.Common.{◌≡◌, ℕ, ◌+◌, ◌-◌, ◌*◌, ◌%◌, ◌<◌, ◌≤◌, List, get_or, sym, ◌∙◌, ap, inl, inr, arith}
use Rattle.std.proofs.lemmas.Bool.{cases_lt}
use Rattle.plane_view.specs.Lent.{Lent, IsRowPart, sample_at}
use Rattle.plane_view.proofs.RowParts.{row_part_point}
use Rattle.plane_view.proofs.Reflections.{IsWithin}
use Rattle.malvar.specs.Pattern.{colour_at}
use Rattle.malvar.specs.declared.Kind.{Kind}
use Rattle.malvar.specs.Demosaic.{table_of, reach_of, demosaiced_at}
use Rattle.malvar.specs.inner.Around.{own_colour, next_colour, sample_by, around_of, site_at}
use Rattle.malvar.specs.inner.Rows.{IsWindowOf, Spans, count_of, around_at, row_sample}
use Rattle.malvar.specs.inner.AroundLaws.{sample_is, are_near, reaches}
use Rattle.malvar.specs.declared.filters.Site.{Site}
use Rattle.malvar.specs.declared.windows.Window.{Window}

-- a sample of a row's part, of one plane
slot : (xs : List ℕ) (L : Lent) (row left right x : ℕ) → IsRowPart xs L row left right → L.planes ≡ 1 → left ≤ x
    → x < right
    → get_or xs (x - left) 0 ≡ sample_at L row x 0
slot xs L row left right x row_part planes from to =
    let at : x - left ≡ (x - left) * 1 + 0 = omega arith in
    ap (λ n. get_or xs n 0) at ∙ row_part_point xs L row left right row_part x 0 (x - left) 1 (omega arith)
    (sym planes) to
    (omega arith)

-- the sums of a window are those of the plane
around_at_is : (by : ℕ) (w : Window) (L : Lent) (rows r c : ℕ) → IsWindowOf by w L rows r → L.planes ≡ 1
    → Spans by w c (c + 1) → 1 ≤ by → by ≤ 2 → around_at by w c ≡ around_of by rows w.cols (sample_at L) r c
around_at_is by w L rows r c of planes spans some few =
    let inside : c < w.cols = omega (arith, spans.within) in
    let col = are_near w.cols c by w.some_cols inside some few in
    let end : ℕ = w.left + count_of w in
    let from : (x : ℕ) → IsWithin w.cols c by x → w.left ≤ x = λ x is. omega (arith, is.low, spans.low) in
    let to : (x : ℕ) → IsWithin w.cols c by x → x < end = λ x is. omega (arith, is.high, is.inside, spans.high) in
    let at = λ (xs : List ℕ) (row : ℕ) (row_part : IsRowPart xs L row w.left end) (x : ℕ) (is : IsWithin w.cols c by x).
    slot xs L row w.left end x row_part planes (from x is) (to x is) in
    let centre = at _ _ of.here c col.same in
    let left = at _ _ of.here _ col.before in
    let right = at _ _ of.here _ col.after in
    let up = at _ _ of.up c col.same in
    let down = at _ _ of.down c col.same in
    let up_left = at _ _ of.up _ col.before in
    let up_right = at _ _ of.up _ col.after in
    let down_left = at _ _ of.down _ col.before in
    let down_right = at _ _ of.down _ col.after in
    let far_left = at _ _ of.here _ col.far_before in
    let far_right = at _ _ of.here _ col.far_after in
    let far_up = at _ _ of.far_up c col.same in
    let far_down = at _ _ of.far_down c col.same in
    λ i. record {
      centre = centre i;
      horizontal = left i + right i;
      vertical = up i + down i;
      diagonal = (up_left i + up_right i) + (down_left i + down_right i);
      horizontal_far = far_left i + far_right i;
      vertical_far = far_up i + far_down i;
    }

-- the colours of the sites of a row
own_of : (even odd : Site) (cfa : List ℕ) (r c : ℕ) → own_colour even ≡ colour_at cfa r 0
    → own_colour odd ≡ colour_at cfa r 1 → own_colour (site_at even odd c) ≡ colour_at cfa r c
own_of even odd cfa r c is_even is_odd =
    elim (cases_lt (c % 2) 1) [
      | inl h ↦ let e : c % 2 ≡ 0 = omega arith in rw e is_even
      | inr h ↦ let e : c % 2 ≡ 1 = omega arith in rw e is_odd
    ]

next_of : (even odd : Site) (cfa : List ℕ) (r c : ℕ) → next_colour even ≡ colour_at cfa r 1
    → next_colour odd ≡ colour_at cfa r 0 → next_colour (site_at even odd c) ≡ colour_at cfa r (c + 1)
next_of even odd cfa r c is_even is_odd =
    elim (cases_lt (c % 2) 1) [
      | inl h ↦ let e : c % 2 ≡ 0 = omega arith in let e' : (c + 1) % 2 ≡ 1 = omega arith in rw (e, e') is_even
      | inr h ↦ let e : c % 2 ≡ 1 = omega arith in let e' : (c + 1) % 2 ≡ 0 = omega arith in rw (e, e') is_odd
    ]

-- a row's sample
pub row_sample_is : (kind : Kind) (even odd : Site) (w : Window) (cfa : List ℕ) (L : Lent) (rows r c p : ℕ) → r < rows
    → IsWindowOf (reach_of kind) w L rows r → L.planes ≡ 1 → Spans (reach_of kind) w c (c + 1)
    → own_colour even ≡ colour_at cfa r 0 → next_colour even ≡ colour_at cfa r 1 → own_colour odd ≡ colour_at cfa r 1
    → next_colour odd ≡ colour_at cfa r 0
    → row_sample kind even odd w c p ≡ demosaiced_at (table_of kind) cfa rows w.cols (sample_at L) r c p
row_sample_is kind even odd w cfa L rows r c p in_rows of planes spans own next own' next' =
    let site : Site = site_at even odd c in
    let sums = around_at (reach_of kind) w c in
    let reach = reaches kind in
    ap (λ x. sample_by (table_of kind) x (next_colour site) sums p) (own_of even odd cfa r c own own')
    ∙ ap (λ x. sample_by (table_of kind) (colour_at cfa r c) x sums p) (next_of even odd cfa r c next next')
    ∙ ap (λ x. sample_by (table_of kind) (colour_at cfa r c) (colour_at cfa r (c + 1)) x p)
    (around_at_is (reach_of kind) w L rows r c of planes spans reach.0 reach.1)
    ∙ sym (sample_is kind cfa rows w.cols (sample_at L) r c p in_rows (omega (arith, spans.within)))
