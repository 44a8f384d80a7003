use Rattle.std.proofs.Common.{arith, refl, sym, subst, get_or, ◌-◌, ◌<◌}
use Rattle.ljpeg_predict.proofs.LineLemmas.{more_so_far, none_so_far, stable}
use Rattle.ljpeg_predict.proofs.lines.inner_samples.Goals as goal

pub loop-place-init : goal.loop-place-init
loop-place-init g c = none_so_far _ _ _

pub loop-place-preserved : goal.loop-place-preserved
loop-place-preserved g c =
    let at = c.loop-place in
    more_so_far _ _ _ _ _ c.predict-predicted.result _ (omega arith) (omega arith)
    (λ k q low h e. let far : k - c.args.step < at.place = omega arith in
    subst (λ n. g.P.Fn.post c.args.predict
    (n, (get_or c.args.above.now k 0, (get_or c.args.above.now (k - c.args.step) 0, tt))) q)
    (sym (stable (k - c.args.step) at.place _ at.line far)) e)
    c.predict-predicted.ensures refl at.invariant

pub returns-clause-others : goal.returns-clause-others
returns-clause-others g c = λ place low h. c.loop-place.invariant.done place low (omega arith)
