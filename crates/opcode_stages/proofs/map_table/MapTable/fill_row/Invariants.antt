-- The planes before plane p are mapped.
use Rattle.opcode_stages.specs.inner.MapRows.{MapsPlanes}
use Rattle.opcode_stages.proofs.map_table.MapTable.fill_row.Given as goal

abbrev pub invariant-loop-p : goal.invariant-loop-p
invariant-loop-p l = MapsPlanes l.self-inside.table l.initial.out l.out l.count l.self-inside.plane l.p l.columns.from
    l.columns.to l.columns.pitch
