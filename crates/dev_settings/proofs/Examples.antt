-- The definitions at work on small scripts.
use Rattle.std.proofs.Common.{◌≡◌, [], ◌∷◌, Some, None, Ok, Err, refl}
use Rattle.std.specs.Prelude.{codes, pos, negsuc}
use Rattle.dev_settings.specs.declared.format.Format.TheVariants.{Ppm}
use Rattle.dev_settings.specs.declared.command.Command.TheVariants.{Set, Region}
use Rattle.dev_settings.specs.declared.command.LineFault.TheVariants as fault
use Rattle.dev_settings.specs.declared.settings.Change.TheVariants.{White, Matrix, Tone}
use Rattle.dev_settings.specs.declared.settings.MatrixChoice.TheVariants.{Own}
use Rattle.tone_table.specs.declared.Curve.TheVariants.{Knots}
use Rattle.dev_settings.specs.Lines.{lines_of, all_lines, line_text_of}
use Rattle.dev_settings.specs.Words.{words, number_of}
use Rattle.dev_settings.specs.Commands.{command_of}

two_words : words (codes "  a  bc ") ≡ codes "a" ∷ codes "bc" ∷ []
two_words = refl

no_words : words (codes "  ") ≡ []
no_words = refl

a_tab_is_a_letter : words (codes "a\tb") ≡ codes "a\tb" ∷ []
a_tab_is_a_letter = refl

ten_digits : number_of (codes "0000000004") ≡ Some 4
ten_digits = refl

eleven_digits : number_of (codes "00000000004") ≡ None
eleven_digits = refl

greatest : number_of (codes "4294967295") ≡ Some 4294967295
greatest = refl

past_greatest : number_of (codes "4294967296") ≡ None
past_greatest = refl

no_digit : number_of [] ≡ None
no_digit = refl

three_lines : all_lines (lines_of (codes "a\n\nb\r\n")) ≡ codes "a" ∷ [] ∷ codes "b\r" ∷ []
three_lines = refl

no_line_feed_at_end : all_lines (lines_of (codes "a\nb")) ≡ codes "a" ∷ codes "b" ∷ []
no_line_feed_at_end = refl

empty_script : all_lines (lines_of []) ≡ []
empty_script = refl

one_return_dropped : line_text_of (codes "b\r\r") ≡ Some (codes "b\r")
one_return_dropped = refl

a_region : command_of (codes " region 4 4  3 1 ppm") ≡ Ok (Region 4 4 3 1 Ppm)
a_region = refl

a_level : command_of (codes "set white 0004095") ≡ Ok (Set (White (Some 4095)))
a_level = refl

a_matrix : command_of (codes "set matrix -2 0 0 0 7 0 0 0 -0")
    ≡ Ok (Set (Matrix (Own (negsuc 1 ∷ pos 0 ∷ pos 0 ∷ pos 0 ∷ pos 7 ∷ pos 0 ∷ pos 0 ∷ pos 0 ∷ pos 0 ∷ []))))
a_matrix = refl

a_curve : command_of (codes "set tone knots 0 5 65535 9") ≡ Ok (Set (Tone (Knots ((0, 5) ∷ (65535, 9) ∷ []))))
a_curve = refl

knots_that_do_not_rise : command_of (codes "set tone knots 0 0 0 5 65535 9") ≡ Err fault.Value
knots_that_do_not_rise = refl

an_unknown_key : command_of (codes "set hue") ≡ Err fault.Key
an_unknown_key = refl

no_value : command_of (codes "set black") ≡ Err fault.Value
no_value = refl

a_word_too_many : command_of (codes "stat 1") ≡ Err fault.Word
a_word_too_many = refl

no_height : command_of (codes "region 0 0 1 0 ppm") ≡ Err fault.Region
no_height = refl

an_empty_line : command_of [] ≡ Err fault.Word
an_empty_line = refl
