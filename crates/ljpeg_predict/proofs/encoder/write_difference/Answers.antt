use Rattle.std.proofs.Common.{◌++◌, ◌≢◌, arith, sym, subst, IfOk}
use Rattle.std.proofs.lemmas.Nat.{one_shl}
use Rattle.binary_digits.specs.Digits.{bits_of}
use Rattle.ljpeg_predict.specs.Encoding.{signed}
use Rattle.ljpeg_predict.specs.inner.Writing.{Adds}
use Rattle.ljpeg_predict.proofs.EncodeLemmas.{joined_below, largest_bits_are, other_bits_are}
use Rattle.ljpeg_predict.proofs.encoder.write_difference.Goals as goal

pub returns-then-category-eq16-clause-bits : goal.returns-then-category-eq16-clause-bits
returns-then-category-eq16-clause-bits c =
    let category = c.category_of-category.result in
    let e = largest_bits_are (signed c.args.number) category c.code_of-code.result.0 c.code_of-code.result.1
    c.category_of-category.ensures.is c.if-category-eq16.true c.code_of-code.ensures.word in
    subst (λ bits. IfOk c.push.result
    (Adds c.args.out.now.items c.push.new.out.items (bits_of c.args.pending.held c.args.pending.word ++ bits)))
    (sym e) c.push.ensures.bits

pub push-requires-2-clause-number : goal.push-requires-2-clause-number
push-requires-2-clause-number c =
    let category = c.category_of-category.result in
    rw (one_shl category 32 (omega arith))
    (joined_below c.code_of-code.result.0 c.code_of-code.result.1 c.extra_of-extra.result category
    c.code_of-code.ensures.fits c.extra_of-extra.ensures.fits)

pub returns-clause-bits : goal.returns-clause-bits
returns-clause-bits c =
    let category = c.category_of-category.result in
    let apart : category ≢ 16 = c.if-category-eq16.false in
    let few = c.category_of-category.ensures.few in
    let e = other_bits_are (signed c.args.number) category c.code_of-code.result.0 c.code_of-code.result.1
    c.extra_of-extra.result c.category_of-category.ensures.is
    (omega arith) c.code_of-code.ensures.word c.extra_of-extra.ensures.is c.extra_of-extra.ensures.fits in
    subst (λ bits. IfOk c.push-2.result
    (Adds c.args.out.now.items c.push-2.new.out.items (bits_of c.args.pending.held c.args.pending.word ++ bits)))
    (sym e) c.push-2.ensures.bits
