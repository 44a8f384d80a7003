-- What contracts see of a cache. All of it is this project's own.
use Rattle.std.specs.Prelude.{ℕ, List}
use Rattle.tile_cache.specs.declared.Key.{Key}

-- a key and the samples of its cell
abbrev pub Pair : Type 0
Pair = Key × List ℕ

-- the pairs, the most recent first, how many there may be, and how many samples they may have
pub record Cache : Type 0 where
  pub pairs : List Pair
  pub slots : ℕ
  pub budget : ℕ
