use Rattle.std.proofs.Common.{◌≡◌}
use Rattle.frame_tests.proofs.fetching.fetched.Given as goal

abbrev pub invariant-loop-k : goal.invariant-loop-k
invariant-loop-k g l = record {
  plane : g.B.Base.plane l.base ≡ g.B.Base.plane l.fn.base;
  cells : g.B.Base.cells_of l.base ≡ g.B.Base.cells_of l.fn.base;
}
