use Rattle.std.proofs.Common.{◌≡◌, ◌-◌, cond, ltb, get_or}
use Rattle.ljpeg_predict.proofs.LineLemmas.{SoFar}
use Rattle.ljpeg_predict.proofs.lines.first_line.Given as goal

abbrev pub invariant-loop-place : goal.invariant-loop-place
invariant-loop-place l =
    SoFar (λ line k p. p ≡ cond (ltb k l.step) l.start (get_or line (k - l.step) 0)) 0 l.fn.line l.line l.place
