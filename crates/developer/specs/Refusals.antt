-- The lines that are written where the words or the frame are refused. All of it is this project's own.
use Rattle.std.specs.Prelude.{List, ℕ, ◌++◌, codes}
use Rattle.tag_rules.specs.FaultText.{fault_text}
use Rattle.tag_rules.specs.declared.faults.FrameFault.{FrameFault}

-- what is written where the words are refused
abbrev pub usage_line : List ℕ
usage_line = codes "usage: rawdev FRAME [--settings FILE] [--budget SAMPLES] [--cell N]\n"

-- what is written where the frame is refused
unfoldable pub refusal_line : FrameFault → List ℕ
refusal_line fault = codes "refused " ++ fault_text fault ++ codes "\n"
