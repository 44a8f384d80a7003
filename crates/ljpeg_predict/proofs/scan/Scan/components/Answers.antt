use Rattle.std.proofs.Common.{arith, sym, ap, ◌∙◌}
use Rattle.ljpeg_predict.specs.Scans.{components}
use Rattle.ljpeg_predict.proofs.TableLemmas.{chosen_count}
use Rattle.ljpeg_predict.proofs.scan.Scan.components.Goals as goal

pub returns-clause-is : goal.returns-clause-is
returns-clause-is c =
    let inside = c.self.inside in
    c.from.ensures ∙ sym (chosen_count inside.tables inside.numbers inside.frame.components
    (omega (arith, c.self.invariant.0.few, c.self.invariant.1))) ∙ ap components c.self.view_is
