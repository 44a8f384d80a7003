use Rattle.std.proofs.Common.{◌≡◌, take}
use Rattle.region_session.proofs.session.cells_of.Given as goal

-- the cells so far
abbrev pub invariant-loop-k : goal.invariant-loop-k
invariant-loop-k g l = l.cells.items ≡ take l.k (g.B.Base.cells_of l.base)
