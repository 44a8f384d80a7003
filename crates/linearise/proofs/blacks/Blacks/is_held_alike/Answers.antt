use Rattle.std.proofs.Common.{rules}
use Rattle.std.specs.Cmp.Rules.{signed_items}
use Rattle.linearise.proofs.blacks.Blacks.is_held_alike.Goals as goal

pub returns-then-eq-clause-across : goal.returns-then-eq-clause-across
returns-then-eq-clause-across c = search (rules, signed_items)

pub returns-then-eq-clause-down : goal.returns-then-eq-clause-down
returns-then-eq-clause-down c = search (rules, signed_items)
