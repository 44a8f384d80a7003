use Rattle.std.proofs.Common.{sym, ◌∙◌, ap, length}
use Rattle.tag_rules.proofs.ValuesLemmas.{length_fractions_in}
use Rattle.tag_rules.proofs.values.Fractions.len.Goals as goal

pub returns : goal.returns
returns c = sym (length_fractions_in _ _) ∙ ap length c.self.view_is
