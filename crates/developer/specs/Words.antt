-- What the words of the command line ask for, which is this project's own.
use Rattle.std.specs.Prelude.{ℕ, ◌^◌, ◌%◌, ◌==◌, ◌&&◌, List, Option, None, Some, nat_le, option_map, option_and_then}
use Rattle.std.specs.Prelude.{if◌then◌else◌}
use Rattle.dev_settings.specs.Words.{number_of}
use Rattle.developer.specs.CommandLine.{Texts, named_words}

-- what the words ask for: the names of the frame's file and of the settings file, how many samples may be kept, and the
-- side of a cell
pub record Options : Type 0 where
  pub frame : List ℕ
  pub settings : Option (List ℕ)
  pub budget : ℕ
  pub cell : ℕ

-- at most 2^30 samples, 2^28 where nothing is said
abbrev pub budget_of : Option (List ℕ) → Option ℕ
budget_of None = Some (2 ^ 28)
budget_of (Some text) = option_and_then (λ n. if nat_le n (2 ^ 30) then Some n else None) (number_of text)

-- 16 to 512 in steps of 16, 128 where nothing is said
abbrev pub cell_of : Option (List ℕ) → Option ℕ
cell_of None = Some 128
cell_of (Some text) =
    option_and_then (λ n. if nat_le 16 n && nat_le n 512 && n % 16 == 0 then Some n else None) (number_of text)

-- the names, and the texts of the numbers as numbers
abbrev pub options_from : Texts → Option Options
options_from texts = option_and_then (λ budget. option_map (λ cell. record {
  frame = texts.frame;
  settings = texts.settings;
  budget = budget;
  cell = cell;
}) (cell_of texts.cell)) (budget_of texts.budget)

-- what the words ask for, the first of them being the program's name; None where they are refused
unfoldable pub options : List (List ℕ) → Option Options
options words = option_and_then options_from (named_words words)
