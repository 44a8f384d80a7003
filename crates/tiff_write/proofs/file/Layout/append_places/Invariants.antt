use Rattle.std.proofs.Common.{◌≡◌, ◌++◌, take}
use Rattle.std.specs.List.{flat_map}
use Rattle.tiff_write.specs.Fields.{number_bytes, offset_of}
use Rattle.tiff_write.proofs.file.Layout.append_places.Given as goal

abbrev pub invariant-loop-place : goal.invariant-loop-place
invariant-loop-place l = l.out.items ≡ l.initial.out.items
    ++ flat_map (λ place. number_bytes l.order 4 (offset_of l.self place)) (take l.place-index l.places)
