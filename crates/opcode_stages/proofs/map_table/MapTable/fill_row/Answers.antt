use Rattle.std.proofs.Common.{◌≡◌, ℕ, true, ◌+◌, ◌-◌, ◌∙◌, List, min, sym, ap, subst}
use Rattle.plane_view.specs.Lent.{IsRowPart, sample_at}
use Rattle.plane_view.specs.Rows.{IsRowOf}
use Rattle.opcode_stages.specs.Maps.{Mapping, mapped_at}
use Rattle.opcode_stages.specs.inner.MapRows.{MapsPlanes}
use Rattle.opcode_stages.proofs.MappedRows.{has_row, row_mapped, same_planes}
use Rattle.opcode_stages.proofs.map_table.MapTable.fill_row.Goals as goal

pub returns : goal.returns
returns c =
    let s = c.self.inside in
    let m : Mapping = record {
      rect = s.rect;
      plane = s.plane;
      planes = s.planes;
      row_pitch = s.row_pitch;
      col_pitch = s.col_pitch;
      table = s.table;
    } in
    let rect = c.args.rect in
    let L = c.args.input.now in
    let was = c.copy_from_slice.new.self in
    let now = c.loop-p.out in
    let p = c.loop-p.p in
    let first = c.first_from.result in
    let to = c.saturating_sub-to.ensures ∙ ap (λ n. n - rect.left) c.min.ensures in
    let count = c.planes-count.ensures in
    subst (λ (seen : Mapping). IsRowOf (mapped_at seen (sample_at L)) rect L.planes c.args.r now) c.self.view_is
    (row_mapped m rect L was now c.args.r first p (subst (λ (seen : Mapping). has_row seen c.args.r ≡ true)
    (sym c.self.view_is) (sym c.if-not-has_row.ensures)) c.first_from.ensures.first
    (subst (λ (xs : List ℕ). IsRowPart xs L c.args.r rect.left rect.right) (sym c.copy_from_slice.ensures.after)
    c.row_part.ensures)
    (λ q plane. same_planes m.plane m.planes L.planes c.min-end.result p q (c.min-end.ensures
    ∙ ap (λ n. min (m.plane + m.planes) n) count) c.loop-p-test.false c.loop-p.auto.p c.loop-p.auto.p-end plane)
    (subst (λ (n : ℕ). MapsPlanes m.table was now n m.plane p (first - rect.left)
    (min m.rect.right rect.right - rect.left) m.col_pitch) count
    (subst (λ (n : ℕ). MapsPlanes m.table was now c.planes-count.result m.plane p (first - n)
    (min m.rect.right rect.right - rect.left) m.col_pitch) c.from.ensures
    (subst (λ (n : ℕ). MapsPlanes m.table was now c.planes-count.result m.plane p (first - c.from.result) n m.col_pitch)
    to c.loop-p.invariant))))
