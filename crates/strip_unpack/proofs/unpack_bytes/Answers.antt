use Rattle.std.proofs.Common.{◌≡◌, ℕ, List, ◌∙◌, sym, subst, arith}
use Rattle.std.proofs.lemmas.List.{take_all}
use Rattle.binary_digits.specs.Digits.{bits_of}
use Rattle.strip_unpack.specs.Samples.{Spells}
use Rattle.strip_unpack.proofs.BytePairs.{spells_bytes}
use Rattle.strip_unpack.proofs.unpack_bytes.Goals as goal

pub returns : goal.returns
returns c =
    let l = c.loop-i in
    let bytes = c.args.bytes.now in
    let P : List ℕ → Type 0 = λ xs. Spells (bits_of 8) 8 xs bytes in
    let same : l.out ≡ bytes =
    sym (take_all l.i l.out (omega arith)) ∙ l.invariant ∙ take_all l.i bytes (omega arith) in
    subst P (sym same) (spells_bytes bytes (λ k. let small = c.type_inv.bytes k in omega arith))
