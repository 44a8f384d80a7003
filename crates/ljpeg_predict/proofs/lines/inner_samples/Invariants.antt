use Rattle.std.proofs.Common.{◌-◌, get_or}
use Rattle.ljpeg_predict.proofs.LineLemmas.{SoFar}
use Rattle.ljpeg_predict.proofs.lines.inner_samples.Given as goal

abbrev pub invariant-loop-place : goal.invariant-loop-place
invariant-loop-place g l =
    SoFar (λ line k p. g.P.Fn.post l.predict
    (get_or line (k - l.step) 0, (get_or l.above k 0, (get_or l.above (k - l.step) 0, tt))) p) l.step l.fn.line
    l.line l.place
