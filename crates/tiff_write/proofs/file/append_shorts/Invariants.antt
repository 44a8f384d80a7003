use Rattle.std.proofs.Common.{◌≡◌, ◌++◌, take}
use Rattle.std.specs.List.{flat_map}
use Rattle.tiff_write.specs.Fields.{number_bytes}
use Rattle.tiff_write.proofs.file.append_shorts.Given as goal

abbrev pub invariant-loop-number : goal.invariant-loop-number
invariant-loop-number l = l.out.items ≡ l.initial.out.items
    ++ flat_map (number_bytes l.order 2) (take l.number-index l.numbers)
