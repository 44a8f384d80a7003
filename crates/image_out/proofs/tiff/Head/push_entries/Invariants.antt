use Rattle.std.proofs.Common.{◌≡◌, ◌++◌, take, length, ◌+◌, ◌*◌}
use Rattle.std.specs.List.{flat_map}
use Rattle.image_out.specs.Tiff.{entry_bytes}
use Rattle.image_out.proofs.tiff.Head.push_entries.Given as goal

-- the entries so far
abbrev pub invariant-loop-entry : goal.invariant-loop-entry
invariant-loop-entry l = record {
  bytes : l.self ≡ l.fn.self ++ flat_map entry_bytes (take l.entry-index l.entries);
  length : length l.self ≡ length l.fn.self + 12 * l.entry-index;
}
