use Rattle.std.proofs.Common.{◌≡◌, ℕ, length, get_or, None}
use Rattle.ljpeg_huffman.specs.inner.Short.{IsShort}
use Rattle.ljpeg_huffman.proofs.table.short_codes.Given as goal

abbrev pub invariant-loop-place : goal.invariant-loop-place
invariant-loop-place l = (length l.short ≡ 512) × ((k : ℕ) → IsShort l.counts l.values k (get_or l.short k None))
