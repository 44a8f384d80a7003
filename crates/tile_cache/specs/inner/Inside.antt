-- How the fields of a cache stand for its pairs. This is this project's own.
use Rattle.std.specs.Prelude.{◌≡◌, ℕ, ◌<◌, ◌≤◌, ◌^◌, length, map, Vec}
use Rattle.std.specs.List.{sum_by}
use Rattle.std.specs.declared.alloc.Global.{Global}
use Rattle.tile_cache.specs.Pairs.{Cache, Pair}
use Rattle.tile_cache.specs.declared.Key.{Key}
use Rattle.tile_cache.specs.declared.TileCache.TheInside.{Inside}

-- a key with its cell, as the map keeps it
abbrev pub Entry : Type 0
Entry = Key × Vec ℕ Global

-- an entry as a pair of a key and samples
abbrev pub pair_of : Entry → Pair
pair_of entry = (entry.0, entry.1.items)

-- the number of samples of an entry's cell
abbrev pub entry_size : Entry → ℕ
entry_size entry = length entry.1.items

-- the cache that the fields stand for
abbrev pub cache_view : Inside → Cache
cache_view inside = record { pairs = map pair_of inside.cells.entries; slots = inside.slots; budget = inside.budget }

-- the sum of sizes is right and within the budget
pub record IsSound (inside : Inside) : Type 0 where
  pub total : inside.total ≡ sum_by entry_size inside.cells.entries
  pub within : inside.total ≤ inside.budget
  pub small : inside.budget ≤ 2 ^ 30
  pub fits : length inside.cells.entries ≤ inside.slots
  pub room : inside.cells.cap ≡ inside.slots
  pub some : 0 < inside.slots
  pub few : inside.slots ≤ 65536
