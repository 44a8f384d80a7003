use Rattle.std.proofs.Common.{arith, refl}
use Rattle.opcode_stages.proofs.Pitches.{first_past}
use Rattle.opcode_stages.proofs.map_rows.first_from.Goals as goal

pub returns-else-past-eq0-clause-first : goal.returns-else-past-eq0-clause-first
returns-else-past-eq0-clause-first c =
    let some = c.requires in
    let above = c.if-low-start.false in
    let not_at = rw (c.from-low.ensures, c.from-pitch.ensures, c.from-start.ensures) at c.if-past-eq0.false in
    rw (c.from-low.ensures, c.from-pitch.ensures, c.from-start.ensures)
    (first_past c.args.start c.args.pitch c.args.low _ (omega arith) (omega arith) refl (omega arith))
