use Rattle.std.proofs.Common.{◌≡◌, ◌++◌, take}
use Rattle.std.specs.List.{flat_map}
use Rattle.tiff_write.specs.Files.{far_bytes}
use Rattle.tiff_write.proofs.file.Layout.append_far_values.Given as goal

abbrev pub invariant-loop-field : goal.invariant-loop-field
invariant-loop-field l = l.out.items ≡ l.initial.out.items
    ++ flat_map (far_bytes l.order l.self) (take l.field-index l.fields)
