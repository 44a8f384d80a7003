-- Definitions for the contracts between functions of this crate: places in a list of files in memory. This is this
-- project's own.
use Rattle.std.specs.Prelude.{ℕ, List}
use Rattle.std.specs.List.{position_or_len}
use Rattle.raw_io.specs.Memory.{MemoryFile, is_named}

-- the place of the first file of this name, or the number of files
abbrev pub place_of : List ℕ → List MemoryFile → ℕ
place_of name files = position_or_len (is_named name) files
