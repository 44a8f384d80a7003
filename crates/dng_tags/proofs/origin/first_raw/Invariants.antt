use Rattle.std.proofs.Common.{◌≡◌, drop}
use Rattle.dng_tags.specs.Origin.{first_raw}
use Rattle.dng_tags.proofs.origin.first_raw.Given as goal

abbrev pub invariant-loop-i : goal.invariant-loop-i
invariant-loop-i l = first_raw l.tiff l.offsets ≡ first_raw l.tiff (drop l.i l.offsets)
