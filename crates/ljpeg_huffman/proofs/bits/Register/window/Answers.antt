use Rattle.ljpeg_huffman.proofs.DataLemmas.{window_full, window_masked}
use Rattle.ljpeg_huffman.proofs.bits.Register.window.Goals as goal

pub returns-then-self-ge16 : goal.returns-then-self-ge16
returns-then-self-ge16 c = window_full c.args.self.now.held c.args.self.now.word c.if-self-ge16.true

pub returns-else-self-ge16 : goal.returns-else-self-ge16
returns-else-self-ge16 c = window_masked c.args.self.now.held c.args.self.now.word c.if-self-ge16.false
