-- The samples before column k are mapped.
use Rattle.std.proofs.Common.{min}
use Rattle.opcode_stages.specs.inner.MapRows.{MapsColumns}
use Rattle.opcode_stages.proofs.map_rows.map_run.Given as goal

abbrev pub invariant-loop-k : goal.invariant-loop-k
invariant-loop-k l = MapsColumns l.table l.initial.row l.row 1 0 l.from (min l.k l.to) 1
