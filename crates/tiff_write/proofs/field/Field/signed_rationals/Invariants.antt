use Rattle.std.proofs.Common.{◌≡◌, take}
use Rattle.std.specs.List.{flat_map}
use Rattle.tiff_write.specs.Fields.{signed_halves_of}
use Rattle.tiff_write.proofs.field.Field.signed_rationals.Given as goal

abbrev pub invariant-loop-fraction : goal.invariant-loop-fraction
invariant-loop-fraction l = l.halves.items ≡ flat_map signed_halves_of (take l.fraction-index l.fractions)
