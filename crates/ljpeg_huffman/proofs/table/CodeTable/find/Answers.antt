use Rattle.std.proofs.Common.{arith, subst, All, length, ◌≤◌, ◌-◌, ◌/◌, ◌^◌, Contains}
use Rattle.ljpeg_huffman.specs.inner.Short.{IsShort}
use Rattle.binary_digits.specs.Digits.{bits_of}
use Rattle.ljpeg_huffman.specs.Words.{IsPrefixFree, code_words}
use Rattle.ljpeg_huffman.specs.inner.Tables.{high_end}
use Rattle.ljpeg_huffman.proofs.ShortLemmas.{short_says}
use Rattle.ljpeg_huffman.proofs.TableLemmas.{prefix_free_table, sizes_table, below_table, none_weaker}
use Rattle.ljpeg_huffman.proofs.table.CodeTable.find.Goals as goal
use Rattle.ljpeg_huffman.proofs.table.CodeTable.find.Goals.{In-Some, In-None}

-- what the look-up gave
looked_up : (c : In-Some)
    → (c.in-Some.code.size ≤ 16) × (c.in-Some.code.category ≤ 16)
    × Contains (code_words c.self.inside.counts c.self.inside.values)
    (bits_of c.in-Some.code.size (c.args.window / 2 ^ (16 - c.in-Some.code.size)), c.in-Some.code.category)
looked_up c =
    let inside = c.self.inside in
    short_says inside.counts inside.values c.args.window c.in-Some.code
    (subst (IsShort inside.counts inside.values (c.args.window / 2 ^ 7)) c.in-Some.is
    (c.self.invariant.1 (c.args.window / 2 ^ 7) (omega arith)))

pub returns-in-Some-clause-size : goal.returns-in-Some-clause-size
returns-in-Some-clause-size c = (looked_up c).0

pub returns-in-Some-clause-category : goal.returns-in-Some-clause-category
returns-in-Some-clause-category c = (looked_up c).1

pub returns-in-Some-clause-found : goal.returns-in-Some-clause-found
returns-in-Some-clause-found c =
    let code = c.in-Some.code in
    subst (λ t. Contains t (bits_of code.size (c.args.window / 2 ^ (16 - code.size)), code.category)) c.self.view_is
    (looked_up c).2

pub returns-in-Some-clause-prefix_free : goal.returns-in-Some-clause-prefix_free
returns-in-Some-clause-prefix_free c =
    subst IsPrefixFree c.self.view_is
    (prefix_free_table c.self.inside.counts c.self.inside.values c.self.invariant.0.lengths c.self.invariant.0.fits)

pub returns-in-Some-clause-sizes : goal.returns-in-Some-clause-sizes
returns-in-Some-clause-sizes c =
    subst (All (λ entry. length entry.0 ≤ 16)) c.self.view_is
    (sizes_table c.self.inside.counts c.self.inside.values c.self.invariant.0.lengths c.self.invariant.0.fits)

pub returns-in-None-clause-none : goal.returns-in-None-clause-none
returns-in-None-clause-none c =
    let inside = c.self.inside in
    let table = c.self.invariant.0 in
    none_weaker c.walk.result
    (λ h. subst (All (λ entry. high_end entry.0 ≤ c.args.window)) c.self.view_is
    (below_table inside.counts inside.values c.args.window table.lengths table.fits h)) c.walk.ensures.none

pub returns-in-None-clause-prefix_free : goal.returns-in-None-clause-prefix_free
returns-in-None-clause-prefix_free c =
    subst IsPrefixFree c.self.view_is
    (prefix_free_table c.self.inside.counts c.self.inside.values c.self.invariant.0.lengths c.self.invariant.0.fits)

pub returns-in-None-clause-sizes : goal.returns-in-None-clause-sizes
returns-in-None-clause-sizes c =
    subst (All (λ entry. length entry.0 ≤ 16)) c.self.view_is
    (sizes_table c.self.inside.counts c.self.inside.values c.self.invariant.0.lengths c.self.invariant.0.fits)
