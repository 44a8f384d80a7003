use Rattle.std.proofs.Common.{◌≡◌, ◌+◌, ◌++◌, drop, sum_by}
use Rattle.tiff_write.specs.Files.{directory_size, directory_offsets}
use Rattle.tiff_write.proofs.file.layout_of.Given as goal

abbrev pub invariant-loop-fields : goal.invariant-loop-fields
invariant-loop-fields l =
    (l.offsets.items ++ directory_offsets l.at (drop l.fields-index l.directories) ≡ directory_offsets 8 l.directories)
    × (l.at + sum_by directory_size (drop l.fields-index l.directories) ≡ 8 + sum_by directory_size l.directories)
