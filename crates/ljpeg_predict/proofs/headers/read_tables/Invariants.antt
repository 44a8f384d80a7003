use Rattle.std.proofs.Common.{length}
use Rattle.ljpeg_predict.proofs.HeaderLemmas.{TablesLeft}
use Rattle.ljpeg_predict.proofs.headers.read_tables.Given as goal

abbrev pub invariant-loop-number : goal.invariant-loop-number
invariant-loop-number l = TablesLeft l.fn.tables l.fn.body l.tables l.left

abbrev pub decreases-loop-number : goal.decreases-loop-number
decreases-loop-number l = length l.left
