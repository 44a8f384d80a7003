use Rattle.std.proofs.Common.{◌≡◌, suc, ◌+◌, ◌*◌, ◌≤◌, drop, length}
use Rattle.ljpeg_huffman.specs.Words.{space_from}
use Rattle.ljpeg_huffman.proofs.table.space.Given as goal

abbrev pub invariant-loop-place : goal.invariant-loop-place
invariant-loop-place l =
    (l.space + space_from (suc l.place) (drop l.place l.counts) ≡ space_from 1 l.counts) × (l.space ≤ 8355840 * l.place)
    × (length l.counts ≡ 16)
