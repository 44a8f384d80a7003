use Rattle.std.proofs.Common.{◌≡◌, get_or}
use Rattle.ljpeg_predict.proofs.LineLemmas.{SoFar}
use Rattle.ljpeg_predict.proofs.lines.first_samples.Given as goal

abbrev pub invariant-loop-place : goal.invariant-loop-place
invariant-loop-place l = SoFar (λ line k p. p ≡ get_or l.above k 0) 0 l.fn.line l.line l.place
