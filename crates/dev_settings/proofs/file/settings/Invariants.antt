use Rattle.std.proofs.Common.{◌≡◌, drop}
use Rattle.toml.specs.View.{table_view}
use Rattle.dev_settings.specs.File.{settings_from}
use Rattle.dev_settings.specs.Keys.{keys}
use Rattle.dev_settings.specs.Settings.{standard_settings}
use Rattle.dev_settings.proofs.file.settings.Given as goal

-- the settings so far, before the keys that are left
abbrev pub invariant-loop-key : goal.invariant-loop-key
invariant-loop-key l = settings_from (table_view l.table) (drop l.key-index keys) l.settings
    ≡ settings_from (table_view l.table) keys standard_settings
