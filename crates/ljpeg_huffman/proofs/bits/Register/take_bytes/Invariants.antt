use Rattle.std.proofs.Common.{◌≡◌, ◌-◌, ◌<◌}
use Rattle.ljpeg_huffman.specs.inner.Registers.{bits_left}
use Rattle.ljpeg_huffman.proofs.bits.Register.take_bytes.Given as goal

abbrev pub invariant-loop-self : goal.invariant-loop-self
invariant-loop-self l =
    (bits_left l.self.held l.self.word l.self.bytes.now ≡ bits_left l.initial.self.held l.initial.self.word
    l.initial.self.bytes.now) × (l.self.held < 64)

abbrev pub decreases-loop-self : goal.decreases-loop-self
decreases-loop-self l = 64 - l.self.held
