-- What some settings files read as.
use Rattle.std.proofs.Common.{◌≡◌, [], ◌∷◌, Some, Ok, Err, codes, pos, negsuc, refl}
use Rattle.std.specs.Str.{is_utf8, chars}
use Rattle.std.specs.Char.{encode_utf8}
use Rattle.toml.proofs.OnLiterals.{toml_on_literals}
use Rattle.tone_table.specs.declared.Curve.TheVariants.{Root, Knots}
use Rattle.dev_settings.specs.declared.settings.MatrixChoice.TheVariants.{Own}
use Rattle.dev_settings.specs.File.{document_of, settings_of, no_document, unknown_key, wrong_value}
use Rattle.dev_settings.specs.Settings.{standard_settings}

empty : settings_of ([]) ≡ Ok standard_settings
unfolding settings_of document_of is_utf8 chars encode_utf8 toml_on_literals
empty = refl

two_keys : settings_of (codes "tone = 'root' # a curve\nversion = 1\nwb = [1, 2,\n 3,]\n")
    ≡ Ok (record standard_settings { tone = Root; wb = Some (1 ∷ 2 ∷ 3 ∷ []) })
unfolding settings_of document_of is_utf8 chars encode_utf8 toml_on_literals
two_keys = refl

knots : settings_of (codes "tone = [0, 7, 65535, 9]")
    ≡ Ok (record standard_settings { tone = Knots ((0, 7) ∷ (65535, 9) ∷ []) })
unfolding settings_of document_of is_utf8 chars encode_utf8 toml_on_literals
knots = refl

three_integers : settings_of (codes "tone = [0, 7, 65535]") ≡ Err (wrong_value (codes "tone"))
unfolding settings_of document_of is_utf8 chars encode_utf8 toml_on_literals
three_integers = refl

matrix : settings_of (codes "matrix = [-2, 0, 0, 0, 1, 0, 0, 0, 0x1_0]")
    ≡ Ok (record standard_settings {
      matrix = Own (negsuc 1 ∷ pos 0 ∷ pos 0 ∷ pos 0 ∷ pos 1 ∷ pos 0 ∷ pos 0 ∷ pos 0 ∷
          pos 16 ∷ []);
    })
unfolding settings_of document_of is_utf8 chars encode_utf8 toml_on_literals
matrix = refl

gamma : settings_of (codes "tone = 'gamma'") ≡ Err (wrong_value (codes "tone"))
unfolding settings_of document_of is_utf8 chars encode_utf8 toml_on_literals
gamma = refl

first_in_byte_order : settings_of (codes "zeta = 1\ntint = 2\nversion = 2\n") ≡ Err (unknown_key (codes "tint"))
unfolding settings_of document_of is_utf8 chars encode_utf8 toml_on_literals
first_in_byte_order = refl

first_in_the_order_of_keys : settings_of (codes "tone = 1\nexposure = 65537\nwb = 5\n") ≡ Err (wrong_value (codes "wb"))
unfolding settings_of document_of is_utf8 chars encode_utf8 toml_on_literals
first_in_the_order_of_keys = refl

version_two : settings_of (codes "version = 2\nblack = 70000\n") ≡ Err (wrong_value (codes "version"))
unfolding settings_of document_of is_utf8 chars encode_utf8 toml_on_literals
version_two = refl

a_table : settings_of (codes "[black]\n") ≡ Err (wrong_value (codes "black"))
unfolding settings_of document_of is_utf8 chars encode_utf8 toml_on_literals
a_table = refl

a_float : settings_of (codes "exposure = 1.0") ≡ Err (wrong_value (codes "exposure"))
unfolding settings_of document_of is_utf8 chars encode_utf8 toml_on_literals
a_float = refl

cut_short : settings_of (codes "x =") ≡ Err no_document
unfolding settings_of document_of is_utf8 chars encode_utf8 toml_on_literals
cut_short = refl

not_utf8 : settings_of (35 ∷ 255 ∷ []) ≡ Err no_document
unfolding settings_of document_of is_utf8 chars encode_utf8 toml_on_literals
not_utf8 = refl
