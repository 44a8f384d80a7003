-- The command of a script line, which is this project's own.
use Rattle.std.specs.Prelude.{ℕ, ℤ, Bool, true, false, List, [], ◌∷◌, Option, Some, None, Result, Ok, Err, ok_or}
use Rattle.std.specs.Prelude.{option_map, option_and_then, ◌&&◌, if◌then◌else◌, nat_lt, codes, bytes_eq}
use Rattle.dev_settings.specs.declared.format.Format.{Format}
use Rattle.dev_settings.specs.declared.command.Command.{Command}
use Rattle.dev_settings.specs.declared.command.Command.TheVariants.{Set, Region, Stat}
use Rattle.dev_settings.specs.declared.command.LineFault.{LineFault}
use Rattle.dev_settings.specs.declared.command.LineFault.TheVariants as fault
use Rattle.dev_settings.specs.declared.key.Key.{Key}
use Rattle.dev_settings.specs.declared.key.Key.TheVariants.{Matrix, Tone}
use Rattle.dev_settings.specs.Formats.{format_of}
use Rattle.dev_settings.specs.Keys.{key_of}
use Rattle.dev_settings.specs.Values.{Written, name, integer, integers, integers_of, change_of}
use Rattle.dev_settings.specs.Words.{words, number_of, signed_of, unsigned_of}

-- the integer that a word writes; a minus sign may stand before it where the first argument is true
abbrev pub integer_of : Bool → List ℕ → Option ℤ
integer_of true word = signed_of word
integer_of false word = unsigned_of word

-- an integer, or the name that a word is where it writes none
abbrev pub integer_or_name : Option ℤ → List ℕ → Written
integer_or_name (Some n) word = integer n
integer_or_name None word = name word

-- the value that words give: one word is an integer or a name, several are integers, with minus signs where `minus` is
-- true
abbrev pub value_of : Bool → List (List ℕ) → Option Written
value_of minus (word ∷ []) = Some (integer_or_name (integer_of minus word) word)
value_of minus ws = option_map (λ ns. integers ns) (integers_of (integer_of minus) ws)

-- the curve that words give: `knots` and integers, or a name
abbrev pub curve_value_of : List (List ℕ) → Option Written
curve_value_of [] = None
curve_value_of (word ∷ []) = if bytes_eq word (codes "knots") then Some (integers []) else Some (name word)
curve_value_of (word ∷ other ∷ ws) =
    if bytes_eq word (codes "knots") then option_map (λ ns. integers ns) (integers_of unsigned_of (other ∷ ws))
    else None

-- the value that the words after a key give
abbrev pub key_value_of : Key → List (List ℕ) → Option Written
key_value_of Matrix ws = value_of true ws
key_value_of Tone ws = curve_value_of ws
key_value_of _ ws = value_of false ws

-- the command of a key and the words after it
abbrev pub set_of_key : Option Key → List (List ℕ) → Result Command LineFault
set_of_key None ws = Err fault.Key
set_of_key (Some key) ws =
    ok_or (option_map (λ change. Set change) (option_and_then (change_of key) (key_value_of key ws))) fault.Value

-- the command of the words after `set`: a key and its value
abbrev pub set_of : List (List ℕ) → Result Command LineFault
set_of [] = Err fault.Word
set_of (word ∷ ws) = set_of_key (key_of word) ws

-- the region with these numbers, of which neither the width nor the height is 0
abbrev pub region_with : Option ℕ → Option ℕ → Option ℕ → Option ℕ → Option Format → Option Command
region_with (Some x) (Some y) (Some w) (Some h) (Some format) =
    if nat_lt 0 w && nat_lt 0 h then Some (Region x y w h format) else None
region_with _ _ _ _ _ = None

-- the region that the words X Y W H FORMAT name
abbrev pub rectangle_of : List ℕ → List ℕ → List ℕ → List ℕ → List ℕ → Option Command
rectangle_of x y w h format = region_with (number_of x) (number_of y) (number_of w) (number_of h) (format_of format)

-- the command of the words after `region`, of which there are exactly five
abbrev pub region_of : List (List ℕ) → Result Command LineFault
region_of (x ∷ y ∷ w ∷ h ∷ format ∷ []) = ok_or (rectangle_of x y w h format) fault.Region
region_of _ = Err fault.Word

-- the command of the words after `stat`, of which there are none
abbrev pub stat_of : List (List ℕ) → Result Command LineFault
stat_of [] = Ok Stat
stat_of _ = Err fault.Word

-- the command of a line's words, by the first of them
abbrev pub command_of_words : List (List ℕ) → Result Command LineFault
command_of_words [] = Err fault.Word
command_of_words (word ∷ ws) =
    if bytes_eq word (codes "set") then set_of ws
    else (if bytes_eq word (codes "region") then region_of ws
    else (if bytes_eq word (codes "stat") then stat_of ws else Err fault.Word))

-- the command of a line's text
abbrev pub command_of : List ℕ → Result Command LineFault
command_of text = command_of_words (words text)
