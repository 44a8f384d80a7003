-- Definitions for the contracts between functions of this crate: how contracts see what looking at one entry answers.
-- This is this project's own.
use Rattle.std.specs.Prelude.{Result}
use Rattle.std.specs.Result.{result_map_both}
use Rattle.tiff_dirs.specs.Entries.{Field}
use Rattle.tiff_dirs.specs.Seen.{field_seen}
use Rattle.tiff_dirs.specs.declared.Entry.{Entry}
use Rattle.tiff_dirs.specs.declared.EntryFault.{EntryFault}

-- an answer for one entry, with the bytes that its slice holds
abbrev pub one_seen : Result Entry EntryFault → Result Field EntryFault
one_seen answer = result_map_both field_seen (λ fault. fault) answer
