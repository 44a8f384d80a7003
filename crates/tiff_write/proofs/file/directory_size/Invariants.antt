use Rattle.std.proofs.Common.{◌≡◌, ◌+◌, drop, sum_by}
use Rattle.tiff_write.specs.Files.{far_size}
use Rattle.tiff_write.proofs.file.directory_size.Given as goal

abbrev pub invariant-loop-field : goal.invariant-loop-field
invariant-loop-field l =
    l.size + sum_by far_size (drop l.field-index l.fields) ≡ l.initial.size + sum_by far_size l.fields
