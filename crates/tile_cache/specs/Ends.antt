-- What a cache ends as, once a reference into it has ended. This is this project's own.
use Rattle.std.specs.Prelude.{◌≡◌, ⊤}
use Rattle.std.specs.Borrow.{Fml, MutBor, follows_so}
use mathlib.Core.Option.{none}
use Rattle.tile_cache.specs.Pairs.{Cache}
use Rattle.tile_cache.specs.contracts.TileCache.{the_row}

-- once the reference has ended, the cache is `after`
abbrev pub ends_as : MutBor Cache → Cache → Fml
ends_as lent after = follows_so the_row the_row lent.ghost_name none (λ _ _. ⊤) (λ end. end ≡ after)
