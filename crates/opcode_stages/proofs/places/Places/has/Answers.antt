use Rattle.std.proofs.Common.{ℕ, ◌==◌, ◌∙◌, ap}
use Rattle.std.specs.List.{list_any}
use Rattle.opcode_stages.proofs.Lookups.{has_least, has_past}
use Rattle.opcode_stages.proofs.places.Places.has.Goals as goal

pub returns-in-Some : goal.returns-in-Some
returns-in-Some c =
    let places = c.args.self.now.places in
    has_least places c.place-at.result c.in-Some.next c.in-Some.ensures
    ∙ ap (λ (n : ℕ). list_any (λ x. x == n) places) c.place-at.ensures

pub returns-in-None : goal.returns-in-None
returns-in-None c =
    let places = c.args.self.now.places in
    has_past places c.place-at.result c.in-None.ensures
    ∙ ap (λ (n : ℕ). list_any (λ x. x == n) places) c.place-at.ensures
