-- The lines of a script, which are this project's own.
use Rattle.std.specs.Prelude.{ℕ, List, [], ◌∷◌, ◌++◌, if◌then◌else◌, ◌==◌, nat_lt, length, Option, Some, None}
use Rattle.std.specs.Str.Lines.{strip_carriage_return}

-- the bytes of a script: the lines that a line feed (10) ends, each without it, and what follows the last line feed
pub record Lines : Type 0 where
  pub complete : List (List ℕ)
  pub rest : List ℕ

-- no line is complete, and this is the rest
abbrev pub unended : List ℕ → Lines
unended bytes = record { complete = []; rest = bytes }

-- this line, then those
abbrev pub with_first : List ℕ → Lines → Lines
with_first line lines = record { complete = line ∷ lines.complete; rest = lines.rest }

-- those lines and that rest, with a byte put before all their bytes
abbrev pub with_byte : ℕ → List (List ℕ) → List ℕ → Lines
with_byte byte [] rest = unended (byte ∷ rest)
with_byte byte (line ∷ lines) rest = record { complete = (byte ∷ line) ∷ lines; rest = rest }

-- the lines of a script
abbrev pub lines_of : List ℕ → Lines
lines_of [] = unended []
lines_of (byte ∷ bytes) =
    if byte == 10 then with_first [] (lines_of bytes)
    else with_byte byte (lines_of bytes).complete (lines_of bytes).rest

-- the line that the end of the script ends: what follows the last line feed, where it has at least one byte
abbrev pub last_line : List ℕ → List (List ℕ)
last_line [] = []
last_line (byte ∷ bytes) = (byte ∷ bytes) ∷ []

-- all lines: the complete ones, and the one that the end of the script ends
abbrev pub all_lines : Lines → List (List ℕ)
all_lines lines = lines.complete ++ last_line lines.rest

-- the text of a line of at most 4,096 bytes, a carriage return (13) at its end counted: the line without it
abbrev pub line_text_of : List ℕ → Option (List ℕ)
line_text_of line = if nat_lt 4096 (length line) then None else Some (strip_carriage_return line)
