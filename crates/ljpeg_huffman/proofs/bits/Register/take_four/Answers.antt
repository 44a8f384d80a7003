use Rattle.std.proofs.Common.{arith, ap, ◌∙◌}
use Rattle.std.proofs.lemmas.List.{take_rest}
use Rattle.ljpeg_huffman.specs.inner.Registers.{bits_left}
use Rattle.ljpeg_huffman.proofs.DataLemmas.{bits_left-four}
use Rattle.ljpeg_huffman.proofs.bits.Register.take_four.Goals as goal

pub returns-clause-same : goal.returns-clause-same
returns-clause-same c =
    let self = c.args.self.now in
    ap (bits_left _ _) (take_rest self.bytes.now 4)
    ∙ bits_left-four self.held self.word c.from_be_bytes-four.result self.bytes.now
    (omega arith) c.in-len4-up.len_at_least (omega arith) (omega arith) (omega arith)
    (omega arith) c.if-a.false c.if-b.false c.if-c.false c.if-d.false c.from_be_bytes-four.ensures
