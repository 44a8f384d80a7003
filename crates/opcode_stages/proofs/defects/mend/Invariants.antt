-- The good neighbours after the steps so far.
use Rattle.std.proofs.Common.{◌≡◌, ◌*◌, ◌≤◌, take}
use Rattle.plane_view.specs.Lent.{sample_at}
use Rattle.opcode_stages.specs.Mends.{good_count, good_sum}
use Rattle.opcode_stages.proofs.defects.mend.Given as goal

abbrev pub invariant-loop-step : goal.invariant-loop-step
invariant-loop-step g l = record {
  count : l.count ≡ good_count (g.D.Defects.bad l.defects (sample_at l.input)) l.whole.rows l.whole.cols l.r l.c
      (take l.step-index l.step-items);
  sum : l.sum ≡ good_sum (g.D.Defects.bad l.defects (sample_at l.input)) l.whole.rows l.whole.cols (sample_at l.input)
      l.r l.c (take l.step-index l.step-items);
  few : l.count ≤ l.step-index;
  most : l.sum ≤ 65535 * l.count;
}
