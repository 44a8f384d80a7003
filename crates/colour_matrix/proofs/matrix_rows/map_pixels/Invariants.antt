use Rattle.std.proofs.Common.{List, ℤ}
use Rattle.colour_matrix.specs.inner.MatrixRows.{AreRows, HasMatrixed}
use Rattle.colour_matrix.proofs.matrix_rows.map_pixels.Given as goal

abbrev pub invariant-loop-k : goal.invariant-loop-k
invariant-loop-k l = (c : List ℤ) → AreRows c l.rows → HasMatrixed c l.from l.out l.k
