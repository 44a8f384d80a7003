-- Stamps of keys. This is this project's own.
use Rattle.std.specs.Prelude.{ℕ, ◌≤◌, List}
use Rattle.std.specs.List.{All}
use Rattle.tile_cache.specs.Pairs.{Pair}

-- no key has a later stamp
abbrev pub KeysUpTo : ℕ → List Pair → Type 0
KeysUpTo n pairs = All (λ (pair : Pair). pair.0.stamp ≤ n) pairs
