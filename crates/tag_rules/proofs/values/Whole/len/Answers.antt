use Rattle.std.proofs.Common.{sym, ◌∙◌, ap, length}
use Rattle.tag_rules.proofs.ValuesLemmas.{length_numbers_in}
use Rattle.tag_rules.proofs.values.Whole.len.Goals as goal

pub returns : goal.returns
returns c = sym (length_numbers_in _ _) ∙ ap length c.self.view_is
