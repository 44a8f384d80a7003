use Rattle.std.proofs.Common.{◌≡◌}
use Rattle.toml.specs.View.{members_view, table_view}
use Rattle.dev_settings.specs.File.{first_unknown}
use Rattle.dev_settings.proofs.file.unknown_key.Given as goal

-- the keys so far are known
abbrev pub invariant-loop-name : goal.invariant-loop-name
invariant-loop-name l = first_unknown (members_view l.name-iterator) ≡ first_unknown (table_view l.table)
