use Rattle.std.proofs.Common.{pos, arith}
use Rattle.tag_rules.specs.Quantities.{in_parts}
use Rattle.tag_rules.proofs.ListLemmas.{map_by_all}
use Rattle.tag_rules.proofs.quantities.Scale.read.Goals as goal

pub returns-clause-parts : goal.returns-clause-parts
returns-clause-parts c =
    map_by_all (in_parts c.args.self.parts) c.args.fractions.now c.loop-i.out (pos 0, pos 0) (pos 0) (omega arith)
    (λ k within. c.loop-i.invariant.parts k (omega arith))
