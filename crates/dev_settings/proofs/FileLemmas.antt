-- What the definitions of a settings file say at what the code finds.
use Rattle.std.proofs.Common.{◌≡◌, ◌∙◌, ℕ, true, false, cond, codes, List, [], ◌∷◌, ◌++◌, append-nil, drop, length, leb}
use Rattle.std.proofs.Common.{◌<◌, ◌≤◌, ℤ, Option, Some, None, Result, Err, refl, sym, ap, arith, rules, string_bytes}
use Rattle.std.proofs.Common.{tests}
use Rattle.std.specs.Str.{IsUtf8, is_utf8}
use Rattle.std.proofs.lemmas.Str.{IsUtf8-from_is_utf8, is_utf8-from_IsUtf8}
use Rattle.std.specs.Option.{option_map}
use Rattle.std.proofs.lemmas.List.{drop_all}
use Rattle.toml.specs.Data.{Members, as_integer, get_member}
use Rattle.toml.specs.View.{items_view}
use Rattle.toml.specs.declared.value.Value.{Value}
use Rattle.toml.specs.Parse.{parse_document}
use Rattle.dev_settings.specs.File.{IsLeastUnknown, Refusal, unknown_key, document_of, known_settings, first_unknown}
use Rattle.dev_settings.specs.File.{is_version_one, listed, or_wrong_value, settings_from, settings_of, table_settings}
use Rattle.dev_settings.specs.File.{wrong_value}
use Rattle.dev_settings.specs.Keys.{keys}
use Rattle.dev_settings.specs.Settings.{standard_settings}
use Rattle.dev_settings.specs.Values.{each, integers_of}
use Rattle.dev_settings.specs.declared.key.Key.{Key}
use Rattle.dev_settings.specs.Answers.{IsFaultOf, NamesLeastUnknown}
use Rattle.dev_settings.specs.inner.Answers.{IsNoDocument, IsRefusal}
use Rattle.dev_settings.specs.declared.settings.Settings.{Settings}
use Rattle.dev_settings.specs.declared.file.SettingsFault.{SettingsFault}
use Rattle.dev_settings.specs.declared.file.SettingsFault.TheVariants as fault

pub document_of-read : (bytes : List ℕ) (ms : Members) → IsUtf8 bytes → parse_document bytes ≡ Some ms
    → document_of bytes ≡ Some ms
unfolding document_of
document_of-read bytes ms utf8 e = rw (is_utf8-from_IsUtf8 bytes utf8) e

pub document_of-refused : (bytes : List ℕ) → (IsUtf8 bytes → parse_document bytes ≡ None) → document_of bytes ≡ None
unfolding document_of
document_of-refused bytes none =
    (elim (is_utf8 bytes) as (λ y. is_utf8 bytes ≡ y → cond y (parse_document bytes) None ≡ None) [
      | true ↦ λ e. none (IsUtf8-from_is_utf8 bytes e)
      | false ↦ λ e. refl
    ]) refl

-- no document
pub settings_of-no_document : (bytes : List ℕ) (e : SettingsFault) → IsNoDocument (document_of bytes) e
    → IsFaultOf (settings_of bytes) e
unfolding settings_of
settings_of-no_document bytes fault.NotToml h = rw h refl
settings_of-no_document bytes (fault.Key name) h = absurd h
settings_of-no_document bytes (fault.Value name) h = absurd h
settings_of-no_document bytes fault.Memory h = tt

-- a document, and its first key that isn't known, if there is one
pub settings_of-known : (bytes : List ℕ) (ms : Members) (o : Option (List ℕ)) → document_of bytes ≡ Some ms
    → o ≡ first_unknown ms → known_settings o ms ≡ settings_of bytes
unfolding settings_of
settings_of-known bytes ms o d k = rw (d, k) refl

-- the fault of an answer
pub IsFaultOf-refusal : (answer : Result Settings Refusal) (refusal : Refusal) (e : SettingsFault)
    → Err refusal ≡ answer → IsRefusal refusal e → IsFaultOf answer e
IsFaultOf-refusal answer refusal fault.NotToml is h = rw (← is, h) refl
IsFaultOf-refusal answer refusal (fault.Key name) is h = rw (← is, h) refl
IsFaultOf-refusal answer refusal (fault.Value name) is h = rw (← is, h) refl
IsFaultOf-refusal answer refusal fault.Memory is h = tt

-- a version that isn't 1
pub settings_of-version : (bytes : List ℕ) (ms : Members) → table_settings ms ≡ settings_of bytes
    → is_version_one (get_member (codes "version") ms) ≡ false
    → Err (wrong_value (codes "version")) ≡ settings_of bytes
settings_of-version bytes ms known e = rw (← known, e) refl

-- the settings of the keys, or the key whose value is wrong
pub settings_of-keys : (bytes : List ℕ) (ms : Members) (r : Result Settings Key) → table_settings ms ≡ settings_of bytes
    → is_version_one (get_member (codes "version") ms) ≡ true
    → r ≡ settings_from ms keys standard_settings → or_wrong_value r ≡ settings_of bytes
settings_of-keys bytes ms r known e read = rw (← known, e, read) refl

-- the items of an array
pub length_listed : (vs : List Value) → length (listed (items_view vs)) ≡ length vs
length_listed [] = refl
length_listed (v ∷ vs) = let on = length_listed vs in omega (arith, on)

-- more than 32 integers are no value
pub integers_of-many : {X : Type 0} → (read : X → Option ℤ) (xs : List X) → 32 < length xs → None ≡ integers_of read xs
integers_of-many read xs many = let test : leb (length xs) 32 ≡ false = search (rules, tests) in rw test refl

-- at most 32 are read one by one
pub integers_of-few : {X : Type 0} → (read : X → Option ℤ) (xs : List X) → length xs ≤ 32
    → each read xs ≡ integers_of read xs
integers_of-few read xs few = let test : leb (length xs) 32 ≡ true = search (rules, tests) in rw test refl

-- no item is left
pub each_item : (vs : List Value) (i : ℕ) (list : List ℤ) → length vs ≤ i
    → option_map (λ rest. list ++ rest) (each as_integer (listed (items_view (drop i vs))))
    ≡ each as_integer (listed (items_view vs))
    → Some list ≡ each as_integer (listed (items_view vs))
each_item vs i list past so_far =
    let none : drop i vs ≡ [] = drop_all i vs past in
    let from : option_map (λ rest. list ++ rest) (each as_integer (listed (items_view ([]))))
    ≡ each as_integer (listed (items_view vs)) = rw none at so_far in
    ap (λ x. Some x) (sym (append-nil list)) ∙ from

-- the key of the fault is the least
pub NamesLeastUnknown-key : (document : Option Members) (ms : Members) (key_name : List ℕ) (e : SettingsFault)
    → document ≡ Some ms → IsLeastUnknown ms key_name
    → IsRefusal (unknown_key key_name) e → NamesLeastUnknown document e
NamesLeastUnknown-key document ms key_name fault.NotToml is least h = tt
NamesLeastUnknown-key document ms key_name (fault.Key name) is least h =
    let same : key_name ≡ string_bytes name = cc in
    rw (is, ← same) least
NamesLeastUnknown-key document ms key_name (fault.Value name) is least h = tt
NamesLeastUnknown-key document ms key_name fault.Memory is least h = tt

-- another fault names no key
pub NamesLeastUnknown-value : (document : Option Members) (key_name : List ℕ) (e : SettingsFault)
    → IsRefusal (wrong_value key_name) e → NamesLeastUnknown document e
NamesLeastUnknown-value document key_name fault.NotToml h = tt
NamesLeastUnknown-value document key_name (fault.Key name) h = absurd cc
NamesLeastUnknown-value document key_name (fault.Value name) h = tt
NamesLeastUnknown-value document key_name fault.Memory h = tt

pub NamesLeastUnknown-none : (document : Option Members) (e : SettingsFault) → IsNoDocument document e
    → NamesLeastUnknown document e
NamesLeastUnknown-none document fault.NotToml h = tt
NamesLeastUnknown-none document (fault.Key name) h = absurd h
NamesLeastUnknown-none document (fault.Value name) h = tt
NamesLeastUnknown-none document fault.Memory h = tt
