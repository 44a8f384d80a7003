use Rattle.std.proofs.Common.{◌∙◌, arith}
use Rattle.tiff_dirs.proofs.ValuesLemmas.{number_in-byte, number_in-long, number_in-short, size_of-byte, size_of-long}
use Rattle.tiff_dirs.proofs.ValuesLemmas.{size_of-short, value_room}
use Rattle.tiff_dirs.proofs.Tiff.number.Goals as goal

pub bounds-e-i : goal.bounds-e-i
bounds-e-i c =
    omega (arith, value_room _ _ _ _ _ (size_of-byte _ c.in-1.is) c.requires.index c.requires.room)

pub short-requires : goal.short-requires
short-requires c = value_room _ _ _ _ _ (size_of-short _ c.in-3.is) c.requires.index c.requires.room

pub long-requires : goal.long-requires
long-requires c =
    let whole = c.requires.kind in
    value_room _ _ _ _ _ (size_of-long _ whole (λ is. omega arith) (λ is. omega arith)) c.requires.index c.requires.room

pub returns-in-1-clause-value : goal.returns-in-1-clause-value
returns-in-1-clause-value c =
    rw (← c.self.view_is, ← c.self.invariant.0, number_in-byte _ _ _ _ (size_of-byte _ c.in-1.is)) c.into.ensures

pub returns-in-3-clause-value : goal.returns-in-3-clause-value
returns-in-3-clause-value c =
    rw (← c.self.view_is, ← c.self.invariant.0, number_in-short _ _ _ _ (size_of-short _ c.in-3.is))
    (c.into-in-3.ensures ∙ c.short.ensures)

pub returns-in_default-clause-value : goal.returns-in_default-clause-value
returns-in_default-clause-value c =
    let whole = c.requires.kind in
    let four = size_of-long c.args.e.now.kind whole (λ is. omega arith) (λ is. omega arith) in
    rw (← c.self.view_is, ← c.self.invariant.0, number_in-long _ _ _ _ four) c.long.ensures
