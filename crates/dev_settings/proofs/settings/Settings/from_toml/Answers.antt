use Rattle.std.proofs.Common.{◌≡◌, codes, sym, ◌∙◌}
use Rattle.toml.specs.View.{table_view}
use Rattle.toml.specs.Data.{get_member}
use Rattle.std.proofs.Common.{true, false}
use Rattle.dev_settings.specs.File.{is_version_one, unknown_key, wrong_value}
use Rattle.dev_settings.specs.Keys.{name_of}
use Rattle.dev_settings.proofs.FileLemmas.{IsFaultOf-refusal, NamesLeastUnknown-key, NamesLeastUnknown-none}
use Rattle.dev_settings.proofs.FileLemmas.{NamesLeastUnknown-value, settings_of-keys, settings_of-known}
use Rattle.dev_settings.proofs.FileLemmas.{settings_of-no_document, settings_of-version}
use Rattle.dev_settings.proofs.RangeLemmas.{keys_range}
use Rattle.dev_settings.proofs.settings.Settings.from_toml.Goals as goal

pub returns-in-Err-clause-answer : goal.returns-in-Err-clause-answer
returns-in-Err-clause-answer c = settings_of-no_document c.args.bytes.now _ c.in-Err.ensures

pub returns-in-Some-clause-answer : goal.returns-in-Some-clause-answer
returns-in-Some-clause-answer c = IsFaultOf-refusal _ (unknown_key c.in-Some.name.now) c.key_fault.result
    (settings_of-known c.args.bytes.now (table_view c.in-Ok.table) _ c.in-Ok.ensures
    c.in-Some.ensures.first) c.key_fault.ensures

pub returns-then-not-is_version_one-clause-answer : goal.returns-then-not-is_version_one-clause-answer
returns-then-not-is_version_one-clause-answer c =
    let ms = table_view c.in-Ok.table in
    let known = settings_of-known c.args.bytes.now ms _ c.in-Ok.ensures c.in_default.ensures.first in
    let version : is_version_one (get_member (codes "version") ms) ≡ false =
    rw (← c.at.ensures) (sym c.is_version_one.ensures ∙ c.if-not-is_version_one.true) in
    IsFaultOf-refusal _ (wrong_value (codes "version")) c.value_fault.result
    (settings_of-version c.args.bytes.now ms known version) c.value_fault.ensures

pub returns-in-Ok-settings-clause-answer : goal.returns-in-Ok-settings-clause-answer
returns-in-Ok-settings-clause-answer c =
    let ms = table_view c.in-Ok.table in
    let known = settings_of-known c.args.bytes.now ms _ c.in-Ok.ensures c.in_default.ensures.first in
    let version : is_version_one (get_member (codes "version") ms) ≡ true =
    rw (← c.at.ensures) (sym c.is_version_one.ensures ∙ c.if-not-is_version_one.false) in
    sym (settings_of-keys c.args.bytes.now ms _ known version c.in-Ok-settings.ensures)

pub returns-clause-answer : goal.returns-clause-answer
returns-clause-answer c =
    let ms = table_view c.in-Ok.table in
    let known = settings_of-known c.args.bytes.now ms _ c.in-Ok.ensures c.in_default.ensures.first in
    let version : is_version_one (get_member (codes "version") ms) ≡ true =
    rw (← c.at.ensures) (sym c.is_version_one.ensures ∙ c.if-not-is_version_one.false) in
    IsFaultOf-refusal _ (wrong_value (name_of c.in-Err-settings.key)) c.value_fault-in-Err-settings.result
    (settings_of-keys c.args.bytes.now ms _ known version c.in-Err-settings.ensures)
    (rw (← c.name.ensures) c.value_fault-in-Err-settings.ensures)

pub returns-in-Err-clause-least : goal.returns-in-Err-clause-least
returns-in-Err-clause-least c = NamesLeastUnknown-none _ c.in-Err.fault c.in-Err.ensures

pub returns-in-Some-clause-least : goal.returns-in-Some-clause-least
returns-in-Some-clause-least c =
    NamesLeastUnknown-key _ (table_view c.in-Ok.table) c.in-Some.name.now c.key_fault.result c.in-Ok.ensures
    c.in-Some.ensures.least c.key_fault.ensures

pub returns-then-not-is_version_one-clause-least : goal.returns-then-not-is_version_one-clause-least
returns-then-not-is_version_one-clause-least c = NamesLeastUnknown-value _ (codes "version") c.value_fault.result
    c.value_fault.ensures

pub returns-clause-least : goal.returns-clause-least
returns-clause-least c =
    NamesLeastUnknown-value _ (name_of c.in-Err-settings.key) c.value_fault-in-Err-settings.result
    (rw (← c.name.ensures) c.value_fault-in-Err-settings.ensures)

pub returns-in-Ok-settings-clause-in_range : goal.returns-in-Ok-settings-clause-in_range
returns-in-Ok-settings-clause-in_range c = keys_range (table_view c.in-Ok.table) _ c.in-Ok-settings.ensures
