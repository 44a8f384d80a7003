use Rattle.std.proofs.Common.{◌≡◌, ◌≤◌, length, take}
use Rattle.std.specs.List.{sum_by}
use Rattle.tile_cache.specs.Kept.{dropped_until, has_room}
use Rattle.tile_cache.specs.inner.Inside.{entry_size}
use Rattle.tile_cache.proofs.make_room.Given as goal

-- what is left is a prefix of the entries, of which the same is kept as of all
abbrev pub invariant-drops : goal.invariant-drops
invariant-drops l =
    let all = l.initial.cells.entries in
    let passes = has_room entry_size l.slots l.budget l.size in
    record {
      prefix : l.cells.entries ≡ take (length l.cells.entries) all;
      shorter : length l.cells.entries ≤ length all;
      same : dropped_until passes (length l.cells.entries) all ≡ dropped_until passes (length all) all;
      room : l.cells.cap ≡ l.initial.cells.cap;
      total : l.left ≡ sum_by entry_size l.cells.entries;
      within : l.left ≤ l.budget;
    }

abbrev pub decreases-drops : goal.decreases-drops
decreases-drops l = length l.cells.entries
