use Rattle.std.proofs.Common.{arith, refl, sym, ◌∙◌}
use Rattle.std.proofs.lemmas.Bool.{cond-true, cond-false, lt-ltb, le-ltb}
use Rattle.ljpeg_predict.proofs.LineLemmas.{first_line_is, more_so_far, stable_first}
use Rattle.ljpeg_predict.proofs.lines.first_line.Goals as goal
use Rattle.ljpeg_predict.proofs.lines.first_line.Goals.{then-place-step, else-place-step}

pub loop-place-preserved : goal.loop-place-preserved
loop-place-preserved c =
    let at = c.loop-place in
    more_so_far _ _ _ _ _ c.if-place-step.predicted _ (omega arith) (omega arith)
    (λ k q low h e. stable_first c.args.start c.args.step at.place _ at.line c.requires k q low h e)
    (elim c.if-place-step.branch [
      | then-place-step w ↦ w.predicted-is ∙ sym (cond-true _ _ _ (lt-ltb at.place c.args.step (omega arith)))
      | else-place-step w ↦ w.predicted-is ∙ sym (cond-false _ _ _ (le-ltb at.place c.args.step (omega arith)))
    ])
    refl at.invariant

pub returns : goal.returns
returns c = first_line_is _ _ c.loop-place.place _ _ (omega arith) c.loop-place.invariant
