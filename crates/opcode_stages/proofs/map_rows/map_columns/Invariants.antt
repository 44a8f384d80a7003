-- The columns before column k are mapped.
use Rattle.std.proofs.Common.{◌≡◌, ◌-◌, ◌%◌, ◌≤◌, min}
use Rattle.opcode_stages.specs.inner.MapRows.{MapsColumns}
use Rattle.opcode_stages.proofs.map_rows.map_columns.Given as goal

abbrev pub invariant-loop-k : goal.invariant-loop-k
invariant-loop-k l = record {
  above : l.columns.from ≤ l.k;
  step : (l.k - l.columns.from) % l.columns.pitch ≡ 0;
  done : MapsColumns l.table l.initial.row l.row l.planes l.p l.columns.from (min l.k l.columns.to) l.columns.pitch;
}

abbrev pub decreases-loop-k : goal.decreases-loop-k
decreases-loop-k l = l.columns.to - l.k
