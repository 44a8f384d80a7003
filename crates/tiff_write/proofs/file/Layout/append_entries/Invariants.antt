use Rattle.std.proofs.Common.{◌≡◌, ◌++◌, drop}
use Rattle.tiff_write.specs.Files.{entries_bytes}
use Rattle.tiff_write.proofs.file.Layout.append_entries.Given as goal

abbrev pub invariant-loop-field : goal.invariant-loop-field
invariant-loop-field l =
    l.out.items ++ entries_bytes l.order l.self l.at (drop l.field-index l.fields)
    ≡ l.initial.out.items ++ entries_bytes l.order l.self l.initial.at l.fields
