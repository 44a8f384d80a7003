use Rattle.std.proofs.Common.{arith, ◌∙◌, inr}
use Rattle.ljpeg_huffman.proofs.DataLemmas.{bits_left-push, data_bits-end}
use Rattle.ljpeg_huffman.proofs.bits.Register.take_bytes.Goals as goal

pub returns-in_default-clause-enough : goal.returns-in_default-clause-enough
returns-in_default-clause-enough c = inr (data_bits-end c.loop-self.self.bytes.now c.in_default.ensures)

pub loop-self-preserved : goal.loop-self-preserved
loop-self-preserved c =
    let self = c.loop-self.self in (
      bits_left-push self.held self.word c.in-Some.byte self.bytes.now c.in-Some.rest.now (omega arith)
          (omega arith) c.in-Some.ensures ∙ c.loop-self.invariant.0,
      omega arith,
    )
