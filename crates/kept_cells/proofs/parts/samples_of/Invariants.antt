use Rattle.std.proofs.Common.{◌≡◌, ◌-◌, ◌≤◌}
use Rattle.plane_view.specs.Rectangles.{height}
use Rattle.kept_cells.proofs.Cut.{rows_of}
use Rattle.kept_cells.proofs.parts.samples_of.Given as goal

-- the rows so far
abbrev pub invariant-loop-row : goal.invariant-loop-row
invariant-loop-row l = record {
  rows : l.samples.items ≡ rows_of l.part l.rect (l.row - l.rect.top);
  within : l.row - l.rect.top ≤ height l.rect;
}
