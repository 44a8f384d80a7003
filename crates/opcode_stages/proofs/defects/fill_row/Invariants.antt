-- The columns before column c are written, and those from it on hold the input's samples.
use Rattle.std.proofs.Common.{◌≡◌, ◌-◌, ◌<◌, ◌≤◌, true}
use Rattle.plane_view.specs.Lent.{sample_at}
use Rattle.opcode_stages.specs.Mends.{mended_at}
use Rattle.opcode_stages.specs.inner.MendRows.{IsMendedTo}
use Rattle.opcode_stages.proofs.defects.fill_row.Given as goal

abbrev pub invariant-loop-c : goal.invariant-loop-c
invariant-loop-c g l = record {
  not_before : l.left ≤ l.c;
  not_past : l.c ≤ l.right;
  found : l.c < l.right → g.D.Defects.bad l.defects (sample_at l.input) l.r l.c ≡ true;
  mended : IsMendedTo (λ k. mended_at (g.D.Defects.bad l.defects (sample_at l.input)) l.phase l.whole.rows l.whole.cols
      (sample_at l.input) l.r k 0) (λ k. sample_at l.input l.r k 0) l.left l.right l.c l.out;
}

abbrev pub decreases-loop-c : goal.decreases-loop-c
decreases-loop-c g l = l.right - l.c
