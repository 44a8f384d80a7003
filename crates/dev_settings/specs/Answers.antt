-- How an answer of the code shows what the definitions of a settings file say: this project's own. Out of memory says
-- nothing of the file.
use Rattle.std.specs.Prelude.{◌≡◌, ⊤, Option, Result, Ok, Err, MatchOption, MatchResult, string_bytes}
use Rattle.toml.specs.Data.{Members}
use Rattle.dev_settings.specs.File.{Refusal, IsLeastUnknown, no_document, unknown_key, wrong_value}
use Rattle.dev_settings.specs.declared.settings.Settings.{Settings}
use Rattle.dev_settings.specs.declared.file.SettingsFault.{SettingsFault}
use Rattle.dev_settings.specs.declared.file.SettingsFault.TheVariants as fault

-- the fault is that of this answer, or memory ran out
abbrev pub IsFaultOf : Result Settings Refusal → SettingsFault → Type 0
IsFaultOf answer fault.NotToml = answer ≡ Err no_document
IsFaultOf answer (fault.Key name) = answer ≡ Err (unknown_key (string_bytes name))
IsFaultOf answer (fault.Value name) = answer ≡ Err (wrong_value (string_bytes name))
IsFaultOf answer fault.Memory = ⊤

-- the result is this answer, or memory ran out
abbrev pub Answers : Result Settings Refusal → Result Settings SettingsFault → Type 0
Answers answer result = MatchResult result (λ settings. answer ≡ Ok settings) (IsFaultOf answer)

-- a key that the fault names is the least in the byte order of those keys of the document that aren't known
abbrev pub NamesLeastUnknown : Option Members → SettingsFault → Type 0
NamesLeastUnknown document (fault.Key name) = MatchOption document ⊥ (λ ms. IsLeastUnknown ms (string_bytes name))
NamesLeastUnknown document fault.NotToml = ⊤
NamesLeastUnknown document (fault.Value name) = ⊤
NamesLeastUnknown document fault.Memory = ⊤
