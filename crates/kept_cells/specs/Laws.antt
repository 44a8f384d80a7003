-- The cells that are held are those whose keys are in the list: a law that the trait of caches has.
use Rattle.std.specs.Prelude.{◌≡◌, ℕ, List, length}
use Rattle.std.proofs.Common.{sym}
use Rattle.tile_cache.specs.Pairs.{Cache}
use Rattle.tile_cache.specs.Cache.{same_key}
use Rattle.tile_cache.proofs.Values.{is_some-map_values}
use Rattle.kept_cells.specs.Kept.{key_at, is_kept}
use Rattle.kept_cells.specs.Tiling.{kept_in, held_in}

-- a cell is held exactly where its key at the present stamp is there
pub holds_kept : (c : Cache) (stamps : List ℕ) (plane cell : ℕ)
    → (held_in c stamps).holds plane cell ≡ is_kept (kept_in c stamps) plane cell
holds_kept c stamps plane cell =
    let test = same_key (key_at (kept_in c stamps) plane cell) in
    sym (is_some-map_values (λ (xs : List ℕ). length xs) test c.pairs)
