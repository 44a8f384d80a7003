use Rattle.std.proofs.Common.{◌++◌, eq-eqb, ne_eqb, ap, sym, ◌∙◌, ◌∷◌, [], append_assoc}
use Rattle.ljpeg_predict.proofs.WriterLemmas.{stuffed_marked, stuffed_plain}
use Rattle.ljpeg_predict.proofs.writer.push_byte.Goals as goal

pub returns-in_ok-push-2-clause-ok : goal.returns-in_ok-push-2-clause-ok
returns-in_ok-push-2-clause-ok c =
    let byte = c.args.byte in
    let is = c.if-byte-eq255.true in
    c.in_ok-push-2.ensures.items
    ∙ ap (λ x. x ++ 0 ∷ []) (c.in_ok-push.ensures.items ∙ ap (λ b. c.args.out.now.items ++ b ∷ []) is)
    ∙ append_assoc c.args.out.now.items (255 ∷ []) (0 ∷ [])
    ∙ ap (λ x. c.args.out.now.items ++ x) (sym (stuffed_marked byte (eq-eqb byte 255 is)))

pub returns-else-byte-eq255-clause-ok : goal.returns-else-byte-eq255-clause-ok
returns-else-byte-eq255-clause-ok c =
    c.in_ok-push.ensures.items
    ∙ ap (λ x. c.args.out.now.items ++ x)
    (sym (stuffed_plain c.args.byte (ne_eqb c.args.byte 255 c.if-byte-eq255.false)))
