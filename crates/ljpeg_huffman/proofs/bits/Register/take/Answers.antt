use Rattle.ljpeg_huffman.proofs.DataLemmas.{bits_of-taken}
use Rattle.ljpeg_huffman.proofs.bits.Register.take.Goals as goal

pub returns-clause-bits : goal.returns-clause-bits
returns-clause-bits c =
    let self = c.args.self.now in
    bits_of-taken self.held self.word c.args.size c.args.further c.requires.few c.requires.narrow c.requires.held
