use Rattle.std.proofs.Common.{◌≡◌, ◌-◌, ◌*◌, ◌/◌, ◌%◌, ◌^◌, arith, subst, Contains, mod-eq_of_lt}
use Rattle.binary_digits.specs.Digits.{bits_of}
use Rattle.ljpeg_huffman.specs.Words.{code_words}
use Rattle.ljpeg_huffman.proofs.ShortLemmas.{nothing_short, found_short}
use Rattle.ljpeg_huffman.proofs.table.short_code.Goals as goal

pub returns-in_err-code : goal.returns-in_err-code
returns-in_err-code c = rw c.from_residual.ensures (nothing_short c.args.counts.now c.args.values.now c.args.place)

pub returns-then-code-le-SHORT : goal.returns-then-code-le-SHORT
returns-then-code-le-SHORT c =
    let code = c.in_ok-code.code in
    let says = c.in_ok-code.ensures in
    let whole : c.args.place * 2 ^ 7 % 2 ^ 32 ≡ c.args.place * 2 ^ 7 = mod-eq_of_lt (omega arith) in
    found_short c.args.counts.now c.args.values.now c.args.place code c.if-code-le-SHORT.true says.category
    (subst (λ w. Contains (code_words c.args.counts.now c.args.values.now)
    (bits_of code.size (w / 2 ^ (16 - code.size)), code.category)) whole says.found)

pub returns-else-code-le-SHORT : goal.returns-else-code-le-SHORT
returns-else-code-le-SHORT c = nothing_short c.args.counts.now c.args.values.now c.args.place
