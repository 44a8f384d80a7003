use Rattle.std.proofs.Common.{◌≡◌, ◌%◌, length, map, take}
use Rattle.ljpeg_huffman.specs.Differences.{Takes, by_turns}
use Rattle.ljpeg_huffman.proofs.bits.Bits.next_differences.Given as goal

abbrev pub invariant-loop-difference : goal.invariant-loop-difference
invariant-loop-difference l = record {
  taken : Takes (by_turns (map (λ t. t.now) l.tables)) l.fn.self (take l.difference-index l.line) l.self;
  turn : l.turn ≡ l.difference-index % length l.tables;
}
