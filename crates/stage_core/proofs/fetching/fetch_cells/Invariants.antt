use Rattle.stage_core.proofs.FetchedCells.{FetchedSo}
use Rattle.stage_core.proofs.fetching.fetch_cells.Given as goal

-- the cells so far were fetched and counted
abbrev pub invariant-loop-k : goal.invariant-loop-k
invariant-loop-k g l = FetchedSo g.B.Base.plane g.B.Base.cells_of g.B.Base.fetches l.fn.base l.base l.fn.tile l.tile
    l.fn.work l.work l.k
