-- The settings of a file: the TOML document that its bytes are, as the reader of TOML defines it. The keys and their
-- values are this project's own.
use Rattle.std.specs.Prelude.{◌≡◌, ℕ, Bool, true, false, ◌||◌, List, [], ◌∷◌, Option, Some, None, Result, Ok, Err}
use Rattle.std.specs.Prelude.{codes, bytes_eq, is_some, option_map, option_and_then, if◌then◌else◌}
use Rattle.std.specs.Ordering.{nat_cmp, is_gt}
use Rattle.std.specs.Cmp.Lexicographic.{slice_cmp}
use Rattle.std.specs.Str.{is_utf8}
use Rattle.toml.specs.Data.{Data, Items, no_items, item, Members, no_members, member, as_integer, get_member}
use Rattle.toml.specs.Data as toml
use Rattle.toml.specs.Parse.{parse_document}
use Rattle.dev_settings.specs.declared.key.Key.{Key}
use Rattle.dev_settings.specs.declared.settings.Settings.{Settings}
use Rattle.dev_settings.specs.Keys.{key_of, keys, name_of}
use Rattle.dev_settings.specs.Settings.{changed, standard_settings}
use Rattle.dev_settings.specs.Values.{Written, name, integer, integers, integers_of, within, change_of}

-- why a file is refused: it is no document, it has a key that isn't known, or a key has a wrong value
pub data Refusal : Type 0 where
  no_document : Refusal
  unknown_key : List ℕ → Refusal
  wrong_value : List ℕ → Refusal

-- the table that stands in the bytes, which are UTF-8
unfoldable pub document_of : List ℕ → Option Members
document_of bytes = if is_utf8 bytes then parse_document bytes else None

-- the key is `version` or that of a setting
abbrev pub is_known : List ℕ → Bool
is_known key_name = bytes_eq key_name (codes "version") || is_some (key_of key_name)

-- the first key that isn't known; a table's members stand in the byte order of their keys
abbrev pub first_unknown : Members → Option (List ℕ)
first_unknown no_members = None
first_unknown (member key_name held rest) = if is_known key_name then first_unknown rest else Some key_name

-- the same, by the byte order alone: the key isn't known, the table has it, and no other such key comes before it
pub record IsLeastUnknown (ms : Members) (key_name : List ℕ) : Type 0 where
  pub unknown : is_known key_name ≡ false
  pub there : is_some (get_member key_name ms) ≡ true
  pub least : (other : List ℕ) → is_known other ≡ false → is_some (get_member other ms) ≡ true
      → is_gt (slice_cmp nat_cmp key_name other) ≡ false

-- the items of an array
abbrev pub listed : Items → List Data
listed no_items = []
listed (item held items) = held ∷ listed items

-- the value that stands in a file: a text, an integer, or an array of integers
abbrev pub data_value_of : Data → Option Written
data_value_of (toml.string text) = Some (name text)
data_value_of (toml.integer n) = Some (integer n)
data_value_of (toml.array items) = option_map (λ ns. integers ns) (integers_of as_integer (listed items))
data_value_of _ = None

-- whether the version is 1, as it is where it is absent
abbrev pub is_version_one : Option Data → Bool
is_version_one None = true
is_version_one (Some held) = is_some (option_and_then (within 1 1) (as_integer held))

-- the settings after a key's value, where there is one; None where it has a wrong form or is out of range
abbrev pub with_value : Key → Option Data → Settings → Option Settings
with_value key None settings = Some settings
with_value key (Some held) settings =
    option_map (λ change. changed change settings) (option_and_then (change_of key) (data_value_of held))

-- these settings passed on, or the key whose value is wrong
abbrev pub passed_on : Key → (Settings → Result Settings Key) → Option Settings → Result Settings Key
passed_on key next None = Err key
passed_on key next (Some settings) = next settings

-- the settings after the values of some keys, or the first of these keys whose value is wrong
abbrev pub settings_from : Members → List Key → Settings → Result Settings Key
settings_from ms [] settings = Ok settings
settings_from ms (key ∷ rest) settings =
    passed_on key (λ next. settings_from ms rest next) (with_value key (get_member (name_of key) ms) settings)

-- the settings, or the refusal of the key whose value is wrong
abbrev pub or_wrong_value : Result Settings Key → Result Settings Refusal
or_wrong_value (Ok settings) = Ok settings
or_wrong_value (Err key) = Err (wrong_value (name_of key))

-- the settings of a table of known keys: the version is checked first, then the keys in their order
abbrev pub table_settings : Members → Result Settings Refusal
table_settings ms =
    if is_version_one (get_member (codes "version") ms) then or_wrong_value (settings_from ms keys standard_settings)
    else Err (wrong_value (codes "version"))

-- the refusal of a key that isn't known, where there is one, else the settings of the table
abbrev pub known_settings : Option (List ℕ) → Members → Result Settings Refusal
known_settings (Some key_name) ms = Err (unknown_key key_name)
known_settings None ms = table_settings ms

-- the settings of a document, where there is one
abbrev pub document_settings : Option Members → Result Settings Refusal
document_settings None = Err no_document
document_settings (Some ms) = known_settings (first_unknown ms) ms

-- the settings of a file's bytes, or its first refusal
unfoldable pub settings_of : List ℕ → Result Settings Refusal
settings_of bytes = document_settings (document_of bytes)
