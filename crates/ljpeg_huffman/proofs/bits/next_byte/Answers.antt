use Rattle.std.proofs.Common.{eq-eqb, ne_eqb, ap, ◌∙◌, ◌∷◌}
use Rattle.std.proofs.lemmas.List.{nil_from_length}
use Rattle.ljpeg_huffman.specs.Differences.{unstuffed}
use Rattle.ljpeg_huffman.proofs.DataLemmas.{unstuffed-nil, unstuffed-plain, unstuffed-cut, unstuffed-stuffed}
use Rattle.ljpeg_huffman.proofs.DataLemmas.{unstuffed-marker}
use Rattle.ljpeg_huffman.proofs.bits.next_byte.Goals as goal

pub returns-in_err-byte : goal.returns-in_err-byte
returns-in_err-byte c = rw c.from_residual.ensures
    (ap unstuffed (nil_from_length c.args.bytes.now c.in_err-byte.ensures.cases) ∙ unstuffed-nil)

pub returns-then-byte : goal.returns-then-byte
returns-then-byte c =
    let first = c.in_ok-byte in
    ap unstuffed first.ensures.cases.0
    ∙ unstuffed-plain first.byte.now first.rest.now (ne_eqb first.byte.now 255 c.if-byte.true)

pub returns-in_err-stuffed : goal.returns-in_err-stuffed
returns-in_err-stuffed c =
    let first = c.in_ok-byte in
    let end = nil_from_length first.rest.now c.in_err-stuffed.ensures.cases in
    rw c.from_residual-in_err-stuffed.ensures
    (ap unstuffed (first.ensures.cases.0 ∙ ap (λ rest. first.byte.now ∷ rest) end) ∙ unstuffed-cut first.byte.now
    (eq-eqb first.byte.now 255 c.if-byte.false))

pub returns-then-stuffed-eq0 : goal.returns-then-stuffed-eq0
returns-then-stuffed-eq0 c =
    let first = c.in_ok-byte in
    let second = c.in_ok-stuffed in
    ap unstuffed (first.ensures.cases.0 ∙ ap (λ rest. first.byte.now ∷ rest) second.ensures.cases.0)
    ∙ unstuffed-stuffed first.byte.now second.stuffed.now second.rest.now (eq-eqb first.byte.now 255 c.if-byte.false)
    (eq-eqb second.stuffed.now 0 c.if-stuffed-eq0.true)

pub returns-else-stuffed-eq0 : goal.returns-else-stuffed-eq0
returns-else-stuffed-eq0 c =
    let first = c.in_ok-byte in
    let second = c.in_ok-stuffed in
    ap unstuffed (first.ensures.cases.0 ∙ ap (λ rest. first.byte.now ∷ rest) second.ensures.cases.0)
    ∙ unstuffed-marker first.byte.now second.stuffed.now second.rest.now (eq-eqb first.byte.now 255 c.if-byte.false)
    (ne_eqb second.stuffed.now 0 c.if-stuffed-eq0.false)
