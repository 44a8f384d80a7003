-- A row that is mapped in the columns and planes of a map.
use Rattle.std.proofs.Common.{◌≡◌, ℕ, ◌+◌, ◌-◌, ◌*◌, ◌%◌, ◌<◌, ◌≤◌, ◌&&◌, ◌==◌, if◌then◌else◌, nat_le, nat_lt, Bool}
use Rattle.std.proofs.Common.{true, List, get_or, min, sym, ◌∙◌, ap, ⊎_elim, arith}
use Rattle.std.proofs.lemmas.Bool.{cases_lt}
use Rattle.std.proofs.lemmas.Bool.Decides.{nat_tests, same_from_decides}
use Rattle.plane_view.specs.declared.Rect.{Rect}
use Rattle.plane_view.specs.Lent.{Lent, IsRowPart, sample_at}
use Rattle.plane_view.specs.Rows.{IsRowOf}
use Rattle.opcode_stages.specs.Maps.{Mapping, is_mapped, entry_of, mapped_at}
use Rattle.opcode_stages.specs.inner.MapRows.{is_column, MapsPlanes, IsFirstFrom}
use Rattle.opcode_stages.proofs.Pitches.{past_mod}
use Rattle.opcode_stages.proofs.Columns.{IsColumn, column_decides}

-- the columns of a map, counted from the left edge of a part
pub same_columns : (left right pitch low high first c : ℕ) → IsFirstFrom left pitch low first → low ≤ c → c < high
    → is_column (first - low) (min right high - low) pitch (c - low) ≡ is_column left right pitch c
same_columns left right pitch low high first c is above below =
    same_from_decides _ _ (column_decides (first - low) (min right high - low) pitch (c - low)) (
      λ e.
          let h : IsColumn left right pitch c = (column_decides left right pitch c).0 e in
          let from : first ≤ c = ⊎_elim (λ (lt : c < first). absurd (is.least c h.above above lt h.step))
          (λ (le : first ≤ c). le) (cases_lt c first) in
          let not_below = is.not_below in
          let not_before = is.not_before in
          let same : c - left ≡ (first - left) + (c - first) = omega arith in
          let rest : c - low - (first - low) ≡ c - first = omega arith in
          record {
            above = omega arith;
            below = omega arith;
            step = ap (λ n. n % pitch) rest
                ∙ sym (ap (λ n. n % pitch) same ∙ past_mod (first - left) (c - first) pitch is.stepped) ∙ h.step;
          },
      λ h.
          let not_below = is.not_below in
          let not_before = is.not_before in
          let from : first ≤ c = omega arith in
          let same : c - left ≡ (first - left) + (c - first) = omega arith in
          let rest : c - low - (first - low) ≡ c - first = omega arith in
          (column_decides left right pitch c).1
          (record {
            above = omega arith;
            below = omega arith;
            step = ap (λ n. n % pitch) same
                ∙ past_mod (first - left) (c - first) pitch is.stepped ∙ ap (λ n. n % pitch) (sym rest) ∙ h.step;
          }),
    )

-- whether samples of a row may change
abbrev pub has_row : Mapping → ℕ → Bool
has_row m r = nat_le m.rect.top r && nat_lt r m.rect.bottom && ((r - m.rect.top) % m.row_pitch == 0)

-- in a row that may change, the test of a sample is one of its plane and of its column
pub mapped_by : (m : Mapping) (r c p : ℕ) → has_row m r ≡ true
    → ((nat_le m.plane p && nat_lt p (m.plane + m.planes)) && is_column m.rect.left m.rect.right m.col_pitch c)
    ≡ is_mapped m r c p
mapped_by m r c p row = grind (arith, nat_tests)

pub row_mapped : (m : Mapping) (rect : Rect) (L : Lent) (old new : List ℕ) (r first last : ℕ) → has_row m r ≡ true
    → IsFirstFrom m.rect.left m.col_pitch rect.left first → IsRowPart old L r rect.left rect.right
    → ((q : ℕ) → q < L.planes → (nat_le m.plane q && nat_lt q last)
    ≡ (nat_le m.plane q && nat_lt q (m.plane + m.planes)))
    → MapsPlanes m.table old new L.planes m.plane last (first - rect.left) (min m.rect.right rect.right - rect.left)
    m.col_pitch → IsRowOf (mapped_at m (sample_at L)) rect L.planes r new
row_mapped m rect L old new r first last row is_first row_part planes maps = record {
  samples = λ c p pixel plane.
      let was = get_or old ((c - rect.left) * L.planes + p) 0 in
      let choice = λ (b : Bool) (x : ℕ). if b then entry_of m.table x else x in
      maps (c - rect.left) p plane
      ∙ ap (λ b. choice (b && is_column (first - rect.left) (min m.rect.right rect.right - rect.left) m.col_pitch
      (c - rect.left)) was) (planes p plane)
      ∙ ap (λ b. choice ((nat_le m.plane p && nat_lt p (m.plane + m.planes)) && b) was)
      (same_columns m.rect.left m.rect.right m.col_pitch rect.left rect.right first c is_first pixel.left
      pixel.right)
      ∙ ap (λ b. choice b was) (mapped_by m r c p row)
      ∙ ap (λ x. choice (is_mapped m r c p) x) (row_part.samples c p pixel.left pixel.right plane);
}

-- the planes of a map that are in a pixel
pub same_planes : (plane planes n end last q : ℕ) → end ≡ min (plane + planes) n → end ≤ last → plane ≤ last
    → (plane ≤ end → last ≤ end) → q < n
    → (nat_le plane q && nat_lt q last) ≡ (nat_le plane q && nat_lt q (plane + planes))
same_planes plane planes n end last q is_end past from upto below = grind (arith, nat_tests)
