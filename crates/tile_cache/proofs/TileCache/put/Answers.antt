use Rattle.std.proofs.Common.{◌≡◌, ◌∙◌, ◌∷◌, ◌<◌, List, None, length, map, ap, arith}
use Rattle.std.specs.Map.{lookup}
use Rattle.std.proofs.lemmas.List.Sums.{sum_by-cons}
use Rattle.lru.specs.LruCache.{lru_cache}
use Rattle.tile_cache.specs.Pairs.{Cache}
use Rattle.tile_cache.specs.Cache.{same_key, sizes}
use Rattle.tile_cache.specs.inner.Inside.{Entry, entry_size, pair_of}
use Rattle.tile_cache.proofs.Kept.{room_parts}
use Rattle.tile_cache.proofs.Entries.{dropped, none-kept, put_front, sizes-after_put, stored}
use Rattle.tile_cache.proofs.TileCache.put.Goals as goal
use Rattle.tile_cache.proofs.TileCache.put.Goals.{Joined-put-2}

-- the new pair stands in front of those that were kept
in_front : (c : Joined-put-2) → let cells = c.make_room-self-inside.new.cells in
    c.put.new.self ≡ lru_cache ((c.args.key, c.args.cell) ∷ cells.entries) cells.cap
in_front c =
    let cells = c.make_room-self-inside.new.cells in
    let es = c.self.inside.cells.entries in
    let slots = c.self.inside.slots in
    let budget = c.self.inside.budget in
    let n = c.len-size.result in
    let before : lookup (same_key c.args.key) (map pair_of es) ≡ None = rw (← c.self.view_is) at c.requires in
    let is = ap (λ x. x.entries) c.make_room-self-inside.ensures.entries in
    let none = none-kept slots budget n (same_key c.args.key) es cells.entries before is in
    let cap = ap (λ x. x.cap) c.make_room-self-inside.ensures.entries ∙ c.self.invariant.room in
    let room = room_parts entry_size slots budget n cells.entries c.make_room-self-inside.ensures.room in
    let short : length cells.entries < cells.cap = omega (arith, room.1, cap) in
    let all = put_front cells c.args.key c.args.cell none short in
    c.in-Ok.ensures.entries ∙ ap (λ (xs : List Entry). lru_cache xs cells.cap) all

pub invariant_of-self : goal.invariant_of-self
invariant_of-self c =
    let cells = c.make_room-self-inside.new.cells in
    let slots = c.self.inside.slots in
    let budget = c.self.inside.budget in
    let n = c.len-size.result in
    let cap = ap (λ x. x.cap) c.make_room-self-inside.ensures.entries ∙ c.self.invariant.room in
    let room = room_parts entry_size slots budget n cells.entries c.make_room-self-inside.ensures.room in
    let sum = sum_by-cons entry_size (c.args.key, c.args.cell) cells.entries in
    rw (in_front c) (record {
      total = omega (arith, sum, c.make_room-self-inside.ensures.total, c.len-size.ensures);
      within = omega (arith, room.0, c.make_room-self-inside.ensures.total);
      small = c.self.invariant.small;
      fits = omega (arith, room.1);
      room = cap;
      some = c.self.invariant.some;
      few = c.self.invariant.few;
    })

pub returns-in-Ok-clause-stored : goal.returns-in-Ok-clause-stored
returns-in-Ok-clause-stored c =
    let count : c.len-size.result ≡ length c.args.cell.items = omega (arith, c.len-size.ensures) in
    let is = ap (λ x. x.entries) c.make_room-self-inside.ensures.entries in
    rw (← c.self.view_is, in_front c)
    (stored c.self.inside.slots c.self.inside.budget c.len-size.result c.self.inside.cells.entries
    c.make_room-self-inside.new.cells.entries c.args.key c.args.cell.items count c.if-self-size.false is)

pub returns-clause-refused : goal.returns-clause-refused
returns-clause-refused c =
    let count : c.len-size.result ≡ length c.args.cell.items = omega (arith, c.len-size.ensures) in
    let is = ap (λ x. x.entries) c.make_room-self-inside.ensures.entries in
    rw (← c.self.view_is, c.in-Err.ensures.err)
    (dropped c.self.inside.slots c.self.inside.budget c.len-size.result _ c.self.inside.cells.entries
    c.make_room-self-inside.new.cells.entries count is)

pub returns-in-Ok-clause-sizes : goal.returns-in-Ok-clause-sizes
returns-in-Ok-clause-sizes c =
    ap (λ (x : Cache). sizes x.pairs) (returns-in-Ok-clause-stored c)
    ∙ sizes-after_put c.args.self.now c.args.key c.args.cell.items
