-- What the calls of a cache do. All of it is this project's own.
use Rattle.std.specs.Prelude.{ℕ, ◌==◌, ◌&&◌, Bool, List, length, map}
use Rattle.std.specs.List.{sum_by}
use Rattle.lru.specs.LruCache.{promoted}
use Rattle.tile_cache.specs.Pairs.{Cache, Pair}
use Rattle.tile_cache.specs.Kept.{kept, put_in}
use Rattle.tile_cache.specs.declared.Key.{Key}

-- whether two keys are equal: stage, cell and stamp
abbrev pub same_key : Key → Key → Bool
same_key k l = (k.stage == l.stage) && ((k.cell == l.cell) && (k.stamp == l.stamp))

-- the number of samples of a pair's cell
abbrev pub size : Pair → ℕ
size pair = length pair.1

-- the number of samples of all cells
abbrev pub total_size : List Pair → ℕ
total_size = sum_by size

-- the keys with the sizes of their cells
abbrev pub sizes : List Pair → List (Key × ℕ)
sizes pairs = map (λ (pair : Pair). (pair.0, size pair)) pairs

-- a cache of these pairs, with at most so many keys (`slots`) and samples (`budget`)
abbrev pub cache : List Pair → ℕ → ℕ → Cache
cache pairs slots budget = record { pairs = pairs; slots = slots; budget = budget }

-- the pair of this key, if it is there, comes to the front
abbrev pub after_get : Key → Cache → Cache
after_get key c = record c { pairs = promoted (same_key key) c.pairs }

-- the last pairs are dropped until there is room for n more samples
abbrev pub after_drops : ℕ → Cache → Cache
after_drops n c = record c { pairs = kept size c.slots c.budget n c.pairs }

-- the pair comes in front, after the last pairs were dropped until it has room; one larger than the budget changes
-- nothing
abbrev pub after_put : Key → List ℕ → Cache → Cache
after_put key cell c = record c { pairs = put_in size c.slots c.budget (key, cell) c.pairs }
