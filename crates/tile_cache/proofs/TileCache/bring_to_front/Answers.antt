use Rattle.std.proofs.Common.{ap, List, Vec, Global, ℕ}
use Rattle.tile_cache.specs.Cache.{cache, same_key}
use Rattle.tile_cache.specs.Pairs.{Pair}
use Rattle.tile_cache.specs.inner.Inside.{entry_size}
use Rattle.tile_cache.proofs.Entries.{length-promoted, sum_by-promoted}
use Rattle.tile_cache.proofs.Values.{promoted-map_values}
use Rattle.tile_cache.proofs.TileCache.bring_to_front.Goals as goal

pub invariant_of-self : goal.invariant_of-self
invariant_of-self c =
    let es = c.self.inside.cells.entries in
    let test = same_key c.args.key.now in
    rw c.promote.ensures.entries (record {
      total = rw (sum_by-promoted entry_size test es) c.self.invariant.total;
      within = c.self.invariant.within;
      small = c.self.invariant.small;
      fits = rw (length-promoted test es) c.self.invariant.fits;
      room = c.self.invariant.room;
      some = c.self.invariant.some;
      few = c.self.invariant.few;
    })

pub returns : goal.returns
returns c =
    let test = same_key c.args.key.now in
    let same = promoted-map_values (λ (v : Vec ℕ Global). v.items) test c.self.inside.cells.entries in
    rw (← c.self.view_is, c.promote.ensures.entries)
    (ap (λ (ps : List Pair). cache ps c.self.inside.slots c.self.inside.budget) same)
