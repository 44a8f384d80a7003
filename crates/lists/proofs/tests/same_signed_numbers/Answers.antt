use Rattle.std.proofs.Common.{rules}
use Rattle.std.specs.Cmp.Rules.{signed_items}
use Rattle.lists.proofs.tests.same_signed_numbers.Goals as goal

pub returns : goal.returns
returns c = search (rules, signed_items)
