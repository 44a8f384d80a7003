-- The cache of lru, whose entries hold vectors, beside the pairs that contracts see.
use Rattle.std.proofs.Common.{◌≡◌, ◌∙◌, ◌+◌, ◌-◌, ◌<◌, ◌≤◌, ℕ, zero, suc, Bool, true, false, refl, sym, ap, arith}
use Rattle.std.proofs.Common.{le-leb, List, [], ◌∷◌, length, take, map, Option, Some, None, Vec, Global}
use Rattle.std.specs.Prelude.{slice_get}
use Rattle.std.specs.List.{sum_by}
use Rattle.std.specs.Option.{option_map_or}
use Rattle.std.specs.Map.{lookup, lookup_entry, remove_entry}
use Rattle.std.proofs.lemmas.List.{take_all}
use Rattle.std.proofs.lemmas.List.Sums.{sum_by-cons, sum_by_more}
use Rattle.std.proofs.lemmas.Option.{get_or_from_slice_get, slice_get_within}
use Rattle.lru.specs.LruCache.{LruCache, promoted, put_entries}
use Rattle.tile_cache.specs.Pairs.{Cache, Pair}
use Rattle.tile_cache.specs.Kept.{kept, has_room, put_in}
use Rattle.tile_cache.specs.Cache.{after_drops, after_put, cache, same_key, size, sizes}
use Rattle.tile_cache.specs.inner.Inside.{Entry, entry_size, pair_of}
use Rattle.tile_cache.specs.declared.Key.{Key}
use Rattle.tile_cache.proofs.Kept.{dropped_until-take, kept-map, put_in-map}

-- ---- looking up

-- a key that isn't there isn't in a prefix
none-take : (test : Key → Bool) (n : ℕ) (es : List Entry) → lookup test (map pair_of es) ≡ None
    → lookup_entry test (take n es) ≡ None
none-take test zero es none = refl
none-take test (suc n) [] none = refl
none-take test (suc n) (e ∷ es) none = (elim (test e.0)
    as (λ b. test e.0 ≡ b → lookup_entry test (take (suc n) (e ∷ es)) ≡ None) [
      | true ↦ λ t. let bad = rw t at none in cc
      | false ↦ λ t. rw t (none-take test n es (rw t at none))
    ]) refl

-- ---- bringing to the front

-- what is found and the rest make the whole
found_and_rest : (f : Entry → ℕ) (test : Key → Bool) (es : List Entry) (e : Entry) → lookup_entry test es ≡ Some e
    → f e + sum_by f (remove_entry test es) ≡ sum_by f es
found_and_rest f test [] e is = cc
found_and_rest f test (x ∷ es) e is = (elim (test x.0)
    as (λ b. test x.0 ≡ b → f e + sum_by f (remove_entry test (x ∷ es)) ≡ sum_by f (x ∷ es)) [
      | true ↦ λ t. let here = rw t at is in let same : x ≡ e = cc in rw (t, sum_by-cons f x es, ← same) refl
      | false ↦ λ t.
          let on = found_and_rest f test es e (rw t at is) in
          rw (t, sum_by-cons f x es, sum_by-cons f x (remove_entry test es)) (omega (arith, on))
    ]) refl

pub sum_by-promoted : (f : Entry → ℕ) (test : Key → Bool) (es : List Entry) → sum_by f (promoted test es) ≡ sum_by f es
sum_by-promoted f test es = go (lookup_entry test es) refl
  where
    go : (o : Option Entry) → lookup_entry test es ≡ o
        → sum_by f (option_map_or (λ e. e ∷ remove_entry test es) o es) ≡ sum_by f es
    go None is = refl
    go (Some e) is = sum_by-cons f e (remove_entry test es) ∙ found_and_rest f test es e is

found_length : (test : Key → Bool) (es : List Entry) (e : Entry) → lookup_entry test es ≡ Some e
    → suc (length (remove_entry test es)) ≡ length es
found_length test [] e is = cc
found_length test (x ∷ es) e is = (elim (test x.0)
    as (λ b. test x.0 ≡ b → suc (length (remove_entry test (x ∷ es))) ≡ length (x ∷ es)) [
      | true ↦ λ t. rw t refl
      | false ↦ λ t. let on = found_length test es e (rw t at is) in rw t (ap suc on)
    ]) refl

pub length-promoted : (test : Key → Bool) (es : List Entry) → length (promoted test es) ≡ length es
length-promoted test es = go (lookup_entry test es) refl
  where
    go : (o : Option Entry) → lookup_entry test es ≡ o
        → length (option_map_or (λ e. e ∷ remove_entry test es) o es) ≡ length es
    go None is = refl
    go (Some e) is = found_length test es e is

-- ---- sums

-- the last one and those before it
pub popped : (f : Entry → ℕ) (es : List Entry) (e : Entry) → slice_get es (length es - 1) ≡ Some e
    → sum_by f (take (length es - 1) es) + f e ≡ sum_by f es
popped f es e is =
    let some = slice_get_within es (length es - 1) e is in
    let last = get_or_from_slice_get es (length es - 1) e e is in
    let more = sum_by_more f es (length es - 1) e (omega (arith, some)) in
    let whole : take (length es - 1 + 1) es ≡ es = take_all (length es - 1 + 1) es (omega (arith, some)) in
    sym (more ∙ ap (λ n. sum_by f (take (length es - 1) es) + f n) last) ∙ ap (sum_by f) whole

-- ---- a put

-- a new key comes in front of all, where there is room
pub put_front : (c : LruCache Key (Vec ℕ Global)) (k : Key) (v : Vec ℕ Global)
    → lookup_entry (same_key k) c.entries ≡ None → length c.entries < c.cap
    → put_entries same_key c k v ≡ (k, v) ∷ c.entries
put_front c k v none room =
    let all : take (c.cap - 1) c.entries ≡ c.entries = take_all (c.cap - 1) c.entries (omega arith) in
    rw none (ap (λ (es : List Entry). (k, v) ∷ es) all)

pub none-kept : (slots budget n : ℕ) (test : Key → Bool) (es left : List Entry) → lookup test (map pair_of es) ≡ None
    → left ≡ kept entry_size slots budget n es → lookup_entry test left ≡ None
none-kept slots budget n test es left none is =
    let prefix = dropped_until-take (has_room entry_size slots budget n) (length es) es in
    ap (lookup_entry test) (is ∙ prefix.1) ∙ none-take test prefix.0 es none

kept-pairs : (slots budget n m : ℕ) (es left : List Entry) → n ≡ m → left ≡ kept entry_size slots budget n es
    → map pair_of left ≡ kept size slots budget m (map pair_of es)
kept-pairs slots budget n m es left same is =
    ap (map pair_of) (is ∙ ap (λ (k : ℕ). kept entry_size slots budget k es) same)
    ∙ kept-map pair_of entry_size size (λ e. refl) slots budget m es

pub dropped : (slots budget n m : ℕ) (es left : List Entry) → n ≡ m → left ≡ kept entry_size slots budget n es
    → cache (map pair_of left) slots budget ≡ after_drops m (cache (map pair_of es) slots budget)
dropped slots budget n m es left same is =
    ap (λ (ps : List Pair). cache ps slots budget) (kept-pairs slots budget n m es left same is)

pub stored : (slots budget n : ℕ) (es left : List Entry) (k : Key) (cell : List ℕ) → n ≡ length cell → n ≤ budget
    → left ≡ kept entry_size slots budget n es
    → cache ((k, cell) ∷ map pair_of left) slots budget ≡ after_put k cell (cache (map pair_of es) slots budget)
stored slots budget n es left k cell same fits is =
    let within = le-leb (length cell) budget (omega arith) in
    let tail = kept-pairs slots budget n (length cell) es left same is in
    rw within (ap (λ (ps : List Pair). cache ((k, cell) ∷ ps) slots budget) tail)

-- the keys and sizes after a put are those of the kept list
pub sizes-after_put : (c : Cache) (key : Key) (cell : List ℕ) → sizes (after_put key cell c).pairs
    ≡ put_in (λ (item : Key × ℕ). item.1) c.slots c.budget (key, length cell) (sizes c.pairs)
sizes-after_put c key cell =
    let item_of : Pair → Key × ℕ = λ pair. (pair.0, size pair) in
    put_in-map item_of size (λ (item : Key × ℕ). item.1) (λ pair. refl) c.slots c.budget (key, cell) c.pairs
