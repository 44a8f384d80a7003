use Rattle.std.proofs.Common.{ℕ, ◌-◌, ◌<◌, length, get_or, subst, sym, arith}
use Rattle.opcode_stages.specs.inner.Indexes.{has_place}
use Rattle.opcode_stages.specs.inner.Places.{IsLeastFrom}
use Rattle.opcode_stages.specs.inner.MendRows.{IsNextBad}
use Rattle.opcode_stages.proofs.Lookups.{next_found, next_past, next_none}
use Rattle.opcode_stages.proofs.places.Places.next.Goals as goal

pub returns-in_default : goal.returns-in_default
returns-in_default c =
    let places = c.args.self.now.places in
    next_none places c.args.r c.args.from c.args.to c.requires
    (subst (λ (n : ℕ). (k : ℕ) → k < length places → get_or places k 0 < n) c.place.ensures c.in_default.ensures)

pub returns-then-next-place : goal.returns-then-next-place
returns-then-next-place c =
    let places = c.args.self.now.places in
    let next = c.in-Some.next in
    let below = c.if-next-place.true in
    let end = c.place-2.ensures in
    subst (λ (n : ℕ). IsNextBad (has_place c.args.self.now c.args.r) c.args.from c.args.to (next - n))
    (sym c.place-then-next-place.ensures)
    (next_found places c.args.r c.args.from c.args.to next (subst (λ (n : ℕ). IsLeastFrom places n next) c.place.ensures
    c.in-Some.ensures) (omega arith))

pub returns-else-next-place : goal.returns-else-next-place
returns-else-next-place c =
    let places = c.args.self.now.places in
    let next = c.in-Some.next in
    let past = c.if-next-place.false in
    let end = c.place-2.ensures in
    next_past places c.args.r c.args.from c.args.to next c.requires
    (subst (λ (n : ℕ). IsLeastFrom places n next) c.place.ensures c.in-Some.ensures) (omega arith)
