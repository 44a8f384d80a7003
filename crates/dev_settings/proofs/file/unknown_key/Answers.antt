use Rattle.std.proofs.Common.{◌≡◌, Some, rules}
use Rattle.toml.specs.View.{table_view}
use Rattle.dev_settings.specs.File.{first_unknown}
use Rattle.dev_settings.proofs.Order.{IsLeastUnknown-first}
use Rattle.dev_settings.proofs.file.unknown_key.Goals as goal

pub returns-then-not-is_known-clause-least : goal.returns-then-not-is_known-clause-least
returns-then-not-is_known-clause-least c =
    let first : Some c.as_str-then-not-is_known.result.now ≡ first_unknown (table_view c.args.table.now) =
    search rules in
    IsLeastUnknown-first c.args.table.now.entries _ c.into_iter-name-iterator.ensures.into_iter_gives.5 first
