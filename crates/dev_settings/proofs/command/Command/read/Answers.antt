use Rattle.std.proofs.Common.{rules}
use Rattle.dev_settings.proofs.RangeLemmas.{IfOk-command}
use Rattle.dev_settings.proofs.command.Command.read.Goals as goal

pub returns-in-Some-clause-in_range : goal.returns-in-Some-clause-in_range
returns-in-Some-clause-in_range c = IfOk-command c.args.line.now c.set.result (search rules)
