-- What the words of the command line name, by the definition that clap has of simple commands. The command is this
-- project's own.
use Rattle.std.specs.Prelude.{Bool, true, false, List, [], ◌∷◌, Option, Some, None, codes, option_map, if◌then◌else◌}
use Rattle.clap.specs.Walk.{Row, Rule, Text, first_of}
use Rattle.clap.specs.Kinds.{Kinds}
use Rattle.clap.specs.Simple.{App, matches_of, new_app, new_rule, with_rule}
use Rattle.clap.specs.Faults.{fault_of}
use Rattle.clap.specs.declared.builder.action.ArgAction.TheVariants.{Set}

-- the name of the frame's file, which has to be there
abbrev pub frame_rule : Rule
frame_rule = record (new_rule (codes "FRAME")) { required = true; action = Some Set }

-- an option with a value
abbrev pub option_rule : Text → Rule
option_rule name = record (new_rule name) { long = Some name; action = Some Set }

-- `rawdev FRAME [--settings FILE] [--budget SAMPLES] [--cell N]`
abbrev pub rawdev : App
rawdev =
    with_rule (with_rule (with_rule (with_rule (new_app (codes "rawdev")) frame_rule)
    (option_rule (codes "settings"))) (option_rule (codes "budget"))) (option_rule (codes "cell"))

-- the texts that the words name
pub record Texts : Type 0 where
  pub frame : Text
  pub settings : Option Text
  pub budget : Option Text
  pub cell : Option Text

-- these texts, where the frame's is there
abbrev pub texts_from : Option Text → Option Text → Option Text → Option Text → Option Texts
texts_from frame settings budget cell = option_map (λ f. record {
  frame = f;
  settings = settings;
  budget = budget;
  cell = cell;
}) frame

-- the texts in what a command matched
abbrev pub texts_in : List Row → Option Texts
texts_in rows =
    texts_from (first_of (codes "FRAME") rows) (first_of (codes "settings") rows)
    (first_of (codes "budget") rows) (first_of (codes "cell") rows)

-- there is no fault
abbrev pub has_none : Kinds → Bool
has_none [] = true
has_none (kind ∷ kinds) = false

-- what a command reads in the words; None where it refuses them, for whatever cause
unfoldable pub names_by : App → List Text → Option Texts
names_by app words = if has_none (fault_of app words) then texts_in (matches_of app words) else None

-- what the words name, the first of them being the program's name
unfoldable pub named_words : List Text → Option Texts
named_words words = names_by rawdev words
