use Rattle.std.proofs.Common.{◌≡◌, ◌++◌, drop}
use Rattle.tiff_write.specs.Files.{directories_bytes}
use Rattle.tiff_write.proofs.file.Layout.append_directories.Given as goal

abbrev pub invariant-loop-fields : goal.invariant-loop-fields
invariant-loop-fields l =
    l.out.items ++ directories_bytes l.order l.self l.at (drop l.fields-index l.directories)
    ≡ l.initial.out.items ++ directories_bytes l.order l.self l.initial.at l.directories
