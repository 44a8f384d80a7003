-- How cells under a budget stand for what is held of planes, and for the list of keys. This is this project's own.
use Rattle.std.specs.Prelude.{ℕ, List, [], get_or, is_some}
use Rattle.std.specs.Option.{option_map_or}
use Rattle.std.specs.Map.{lookup}
use Rattle.tile_cache.specs.Pairs.{Cache}
use Rattle.tile_cache.specs.Cache.{same_key, sizes}
use Rattle.kept_cells.specs.Held.{Held}
use Rattle.kept_cells.specs.Kept.{Kept, key_at}

-- the keys with the sizes of their cells, under these present stamps
abbrev pub kept_in : Cache → List ℕ → Kept
kept_in c stamps = record {
  items = sizes c.pairs;
  stamps = λ plane. get_or stamps plane 0;
  slots = c.slots;
  budget = c.budget;
}

-- the cells at the present stamps
abbrev pub held_in : Cache → List ℕ → Held
held_in c stamps = record {
  holds = λ plane k. is_some (lookup (same_key (key_at (kept_in c stamps) plane k)) c.pairs);
  samples = λ plane k. option_map_or (λ xs. xs) (lookup (same_key (key_at (kept_in c stamps) plane k)) c.pairs) [];
}
