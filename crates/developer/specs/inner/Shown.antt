-- Definitions for the contracts between functions of this crate: what the definitions see of the code's structs.
use Rattle.std.specs.Prelude.{Option, option_map}
use Rattle.developer.specs.CommandLine.{Texts}
use Rattle.developer.specs.Words as words
use Rattle.developer.specs.declared.words.Named.{Named}
use Rattle.developer.specs.declared.options.Options.{Options}

-- what the words name
abbrev pub named_view : Option Named → Option Texts
named_view = option_map (λ n. record {
  frame = n.frame.now;
  settings = option_map (λ s. s.now) n.settings;
  budget = option_map (λ s. s.now) n.budget;
  cell = option_map (λ s. s.now) n.cell;
})

-- what they ask for
abbrev pub option_view : Options → words.Options
option_view o = record {
  frame = o.frame.now;
  settings = option_map (λ s. s.now) o.settings;
  budget = o.budget;
  cell = o.cell;
}

-- the same, where they are accepted
abbrev pub options_view : Option Options → Option words.Options
options_view = option_map option_view
