use Rattle.std.proofs.Common.{rules, ap₂, codes, ◌≡◌, ◌∙◌}
use Rattle.clap.specs.Words.{rule_of, with_rule}
use Rattle.developer.specs.CommandLine.{frame_rule, option_rule}
use Rattle.developer.proofs.words.command.Goals as goal

-- each argument is the rule that the definition names, and each `arg` adds it
pub returns : goal.returns
returns c =
    let frame_is : rule_of c.action-frame.result ≡ frame_rule = search rules in
    let settings_is : rule_of c.action-settings.result ≡ option_rule (codes "settings") = search rules in
    let budget_is : rule_of c.action-budget.result ≡ option_rule (codes "budget") = search rules in
    let cell_is : rule_of c.action-cell.result ≡ option_rule (codes "cell") = search rules in
    let first = c.in_ok-arg.ensures.shape (search rules) ∙ ap₂ with_rule c.new-5.ensures.app frame_is in
    let second = c.in_ok-arg-2.ensures.shape (search rules) ∙ ap₂ with_rule first settings_is in
    let third = c.in_ok-arg-3.ensures.shape (search rules) ∙ ap₂ with_rule second budget_is in
    c.in_ok-command.ensures.shape (search rules) ∙ ap₂ with_rule third cell_is
