use Rattle.std.proofs.Common.{sym, ◌∙◌, arith}
use Rattle.tiff_dirs.proofs.FirstEntry.{entries-outside, entry_absent, entry_found}
use Rattle.tiff_dirs.proofs.Tiff.entry_place.Goals as goal

pub returns-in_err-count-clause-place : goal.returns-in_err-count-clause-place
returns-in_err-count-clause-place c =
    let outside = entries-outside c.self.inside.bytes.now c.args.at c.args.tag c.in_err-count.ensures.count in
    rw (← c.self.view_is, c.from_residual.ensures) outside

pub returns-then-short-tag-clause-place : goal.returns-then-short-tag-clause-place
returns-then-short-tag-clause-place c =
    let sought = sym c.short.ensures ∙ c.if-short-tag.true in
    rw (← c.self.view_is)
    (entry_found c.self.inside.bytes.now c.args.at c.args.tag c.in_ok-count.count c.loop-i.i
    c.in_ok-count.ensures.count (omega arith) c.loop-i.invariant (rw (← c.self.invariant.0) sought))

pub returns-clause-place : goal.returns-clause-place
returns-clause-place c =
    rw (← c.self.view_is) (entry_absent c.self.inside.bytes.now c.args.at c.args.tag c.in_ok-count.count c.loop-i.i
    c.in_ok-count.ensures.count (omega arith) c.loop-i.invariant)
