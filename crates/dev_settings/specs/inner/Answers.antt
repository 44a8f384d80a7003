-- Definitions for the contracts between functions of this crate: how the parts of an answer show what the definitions
-- of a settings file say. Out of memory says nothing of the file.
use Rattle.std.specs.Prelude.{◌≡◌, ⊤, Option, Some, None, Result, MatchResult, String, string_bytes}
use Rattle.std.specs.BTreeMap.{BTreeMap}
use Rattle.std.specs.declared.alloc.Global.{Global}
use Rattle.toml.specs.Data.{Members}
use Rattle.toml.specs.View.{table_view}
use Rattle.toml.specs.declared.value.Value.{Value}
use Rattle.dev_settings.specs.File.{Refusal, no_document, unknown_key, wrong_value}
use Rattle.dev_settings.specs.declared.file.SettingsFault.{SettingsFault}
use Rattle.dev_settings.specs.declared.file.SettingsFault.TheVariants as fault

-- the fault is this refusal, or memory ran out
abbrev pub IsRefusal : Refusal → SettingsFault → Type 0
IsRefusal refusal fault.NotToml = refusal ≡ no_document
IsRefusal refusal (fault.Key name) = refusal ≡ unknown_key (string_bytes name)
IsRefusal refusal (fault.Value name) = refusal ≡ wrong_value (string_bytes name)
IsRefusal refusal fault.Memory = ⊤

-- there is no document, or memory ran out
abbrev pub IsNoDocument : Option Members → SettingsFault → Type 0
IsNoDocument document fault.NotToml = document ≡ None
IsNoDocument document (fault.Key name) = ⊥
IsNoDocument document (fault.Value name) = ⊥
IsNoDocument document fault.Memory = ⊤

-- the table is the document, or there is none, or memory ran out
abbrev pub ReadsDocument : Option Members → Result (BTreeMap (String Global) Value) SettingsFault → Type 0
ReadsDocument document result = MatchResult result (λ table. document ≡ Some (table_view table)) (IsNoDocument document)
