use Rattle.std.proofs.Common.{◌≡◌, ◌∙◌, ◌-◌, ℕ, true, false, length, take, sym, ap, arith, List}
use Rattle.std.proofs.lemmas.List.{length-take-le, take-take}
use Rattle.std.proofs.lemmas.Option.{slice_get_within}
use Rattle.lru.specs.LruCache.{lru_cache}
use Rattle.tile_cache.specs.Kept.{has_room, kept}
use Rattle.tile_cache.specs.inner.Inside.{Entry, entry_size}
use Rattle.tile_cache.proofs.Kept.{dropped_until_done, dropped_until_less}
use Rattle.tile_cache.proofs.Entries.{popped}
use Rattle.tile_cache.proofs.make_room.Goals as goal

pub overflow_sub-left : goal.overflow_sub-left
overflow_sub-left c =
    let last : Entry = (c.in-Some.field-0-0, c.in-Some.cell) in
    let sum = popped entry_size c.drops.cells.entries last (sym c.in-Some.ensures.value) in
    omega (arith, sum, c.drops.invariant.total, c.len.ensures)

pub drops-preserved : goal.drops-preserved
drops-preserved c =
    let es = c.drops.cells.entries in
    let all = c.args.cells.now.entries in
    let last : Entry = (c.in-Some.field-0-0, c.in-Some.cell) in
    let p = has_room entry_size c.args.slots c.args.budget c.args.size in
    let some = slice_get_within es (length es - 1) last (sym c.in-Some.ensures.value) in
    let sum = popped entry_size es last (sym c.in-Some.ensures.value) in
    let count : length (take (length es - 1) es) ≡ length es - 1 = length-take-le (length es - 1) es (omega arith) in
    let part : take (length es - 1) es ≡ take (length es - 1) all =
    ap (λ (xs : List Entry). take (length es - 1) xs) c.drops.invariant.prefix
    ∙ take-take (length es - 1) (length es) all (omega arith) in
    let full : p (take (length es) all) ≡ false =
    ap p (sym c.drops.invariant.prefix) ∙ (sym c.has_room_for.ensures ∙ c.drops-test.true) in
    let less = dropped_until_less p (length es) (length es - 1) all (omega arith) full in
    rw (c.pop_lru.ensures.entries, count) (record {
      prefix = part;
      shorter = omega (arith, c.drops.invariant.shorter);
      same = sym less ∙ c.drops.invariant.same;
      room = c.drops.invariant.room;
      total = omega (arith, sum, c.drops.invariant.total, c.len.ensures);
      within = omega (arith, c.drops.invariant.within);
    })

pub returns-clause-entries : goal.returns-clause-entries
returns-clause-entries c =
    let es = c.drops.cells.entries in
    let all = c.args.cells.now.entries in
    let p = has_room entry_size c.args.slots c.args.budget c.args.size in
    let room : p (take (length es) all) ≡ true =
    ap p (sym c.drops.invariant.prefix) ∙ (sym c.has_room_for.ensures ∙ c.drops-test.false) in
    let same : es ≡ kept entry_size c.args.slots c.args.budget c.args.size all =
    c.drops.invariant.prefix ∙ (sym (dropped_until_done p (length es) all room) ∙ c.drops.invariant.same) in
    ap (λ (xs : List Entry). lru_cache xs c.drops.cells.cap) same
    ∙ ap (λ (n : ℕ). lru_cache (kept entry_size c.args.slots c.args.budget c.args.size all) n) c.drops.invariant.room
