use Rattle.std.proofs.Common.{◌≡◌, ◌<◌, sym, ◌∙◌, ap, length, get_or, arith}
use Rattle.tag_rules.proofs.ValuesLemmas.{length_numbers_in, number_at_index}
use Rattle.tag_rules.proofs.values.Whole.at.Goals as goal

pub number-requires-clause-index : goal.number-requires-clause-index
number-requires-clause-index c =
    let count : length c.args.self.now ≡ c.self.inside.entry.count =
    ap length (sym c.self.view_is) ∙ length_numbers_in _ _ in
    omega arith

pub returns : goal.returns
returns c =
    let count : length c.args.self.now ≡ c.self.inside.entry.count =
    ap length (sym c.self.view_is) ∙ length_numbers_in _ _ in
    let within : c.args.i < c.self.inside.entry.count = omega arith in
    c.number.ensures.value ∙ (sym (number_at_index _ _ c.args.i within)
    ∙ ap (λ xs. get_or xs c.args.i 0) c.self.view_is)
