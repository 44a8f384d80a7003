use Rattle.ljpeg_predict.proofs.DecodeLemmas.{Decoded}
use Rattle.ljpeg_predict.proofs.samples.read_samples.Given as goal

abbrev pub invariant-loop-line : goal.invariant-loop-line
invariant-loop-line l = Decoded l.scan l.out l.line l.bits
