use Rattle.std.proofs.Common.{◌≡◌, ◌-◌, ◌++◌, true, length, length-append, replicate, arith, ◌∙◌, subst}
use Rattle.std.proofs.lemmas.List.{length-replicate}
use Rattle.binary_digits.specs.Digits.{bits_of}
use Rattle.binary_digits.proofs.DigitLemmas.{length-bits_of}
use Rattle.ljpeg_predict.specs.inner.Writing.{Adds}
use Rattle.ljpeg_predict.proofs.WriterLemmas.{adds_last, adds_none, none_left, shifted_ones}
use Rattle.ljpeg_predict.proofs.writer.Pending.finish.Goals as goal

pub returns-in_ok-push-clause-ok : goal.returns-in_ok-push-clause-ok
returns-in_ok-push-clause-ok c =
    let old = c.args.out.now.items in
    let new = c.push.new.out.items in
    let pending = bits_of c.args.self.held c.args.self.word in
    let ones = 8 - c.args.self.held in
    let left = c.in_ok-push.field-0 in
    let filled = subst (λ bits. Adds old new (pending ++ bits) left)
    (shifted_ones ones (omega arith)) c.in_ok-push.ensures.bits in
    let size : length (pending ++ replicate ones true) ≡ 8 =
    length-append pending (replicate ones true)
    ∙ omega (arith, length-bits_of c.args.self.held c.args.self.word, length-replicate ones true) in
    adds_last old new pending ones left (omega arith)
    (none_left old new (pending ++ replicate ones true) left filled c.in_ok-push.ensures.few size) filled

pub returns-else-self-gt0-clause-ok : goal.returns-else-self-gt0-clause-ok
returns-else-self-gt0-clause-ok c = adds_none _ _ _ (omega arith)
