use Rattle.std.proofs.Common.{◌≡◌, rules, w64, to_z, of_z, ◌*ℤ◌}
use Rattle.colour_matrix.proofs.Raised.{small_term}
use Rattle.colour_matrix.proofs.matrix.term.Goals as goal

pub returns-clause-low : goal.returns-clause-low
returns-clause-low c =
    let value : to_z w64 (of_z w64 (to_z w64 (of_z w64 c.from.result) *ℤ to_z w64 (of_z w64 c.from-2.result)))
    ≡ c.args.weight *ℤ c.args.entry = search rules in
    (small_term c.args.weight c.args.entry _ c.requires.weight c.requires.entry value).0

pub returns-clause-high : goal.returns-clause-high
returns-clause-high c =
    let value : to_z w64 (of_z w64 (to_z w64 (of_z w64 c.from.result) *ℤ to_z w64 (of_z w64 c.from-2.result)))
    ≡ c.args.weight *ℤ c.args.entry = search rules in
    (small_term c.args.weight c.args.entry _ c.requires.weight c.requires.entry value).1
