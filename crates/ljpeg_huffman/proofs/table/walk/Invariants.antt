use Rattle.ljpeg_huffman.proofs.WalkLemmas.{Stands}
use Rattle.ljpeg_huffman.proofs.table.walk.Given as goal

abbrev pub invariant-loop-place : goal.invariant-loop-place
invariant-loop-place l = Stands l.counts l.values l.window l.place l.first l.start
