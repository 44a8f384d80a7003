use Rattle.std.proofs.Common.{arith, refl, ◌∙◌, ap, ◌+◌, ◌%◌, get_or}
use Rattle.ljpeg_predict.proofs.LineLemmas.{more_so_far}
use Rattle.ljpeg_predict.proofs.lines.first_samples.Goals as goal

pub loop-place-preserved : goal.loop-place-preserved
loop-place-preserved c =
    let at = c.loop-place in
    more_so_far _ _ _ _ _ _ _ (omega arith) (omega arith) (λ k q low h e. e) refl refl at.invariant

pub returns-clause-first : goal.returns-clause-first
returns-clause-first c =
    λ place h. let t = c.loop-place.invariant.done place (omega arith) (omega arith) in t.2
    ∙ ap (λ n. (n + get_or c.args.line.now place 0) % 65536) t.1
