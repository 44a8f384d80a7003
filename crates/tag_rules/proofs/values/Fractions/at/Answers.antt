use Rattle.std.proofs.Common.{◌≡◌, ◌<◌, pos, sym, ◌∙◌, ap, length, get_or, arith}
use Rattle.tag_rules.proofs.ValuesLemmas.{length_fractions_in, fraction_at_index}
use Rattle.tag_rules.proofs.values.Fractions.at.Goals as goal

pub rational-requires-clause-index : goal.rational-requires-clause-index
rational-requires-clause-index c =
    let count : length c.args.self.now ≡ c.self.inside.entry.count =
    ap length (sym c.self.view_is) ∙ length_fractions_in _ _ in
    omega arith

pub returns-clause-value : goal.returns-clause-value
returns-clause-value c =
    let count : length c.args.self.now ≡ c.self.inside.entry.count =
    ap length (sym c.self.view_is) ∙ length_fractions_in _ _ in
    let within : c.args.i < c.self.inside.entry.count = omega arith in
    c.rational.ensures.value ∙ (sym (fraction_at_index _ _ c.args.i within)
    ∙ ap (λ xs. get_or xs c.args.i (pos 0, pos 0)) c.self.view_is)
