use Rattle.std.proofs.Common.{◌≡◌, ◌+◌, drop}
use Rattle.raw_io.specs.inner.Places.{place_of}
use Rattle.raw_io.proofs.memory_files.place.Given as goal

abbrev pub invariant-loop-at : goal.invariant-loop-at
invariant-loop-at l = l.at + place_of l.name (drop l.at l.files) ≡ place_of l.name l.files
