-- What a look-up and a put do to the cells that are held and to the list of keys.
use Rattle.std.proofs.Common.{◌≡◌, ◌∙◌, ◌==◌, ◌&&◌, ℕ, zero, suc, Bool, true, false, cond, List, [], ◌∷◌, length, take}
use Rattle.std.proofs.Common.{map, Contains, Option, Some, None, is_some, refl, sym, ap, subst, arith, nat_le, get_or}
use Rattle.std.proofs.Common.{◌≤◌, ◌<◌}
use Rattle.std.specs.Option.{option_map_or}
use Rattle.std.specs.Map.{lookup, lookup_entry, remove_entry}
use Rattle.std.specs.Cmp.{nat_eq_equiv}
use Rattle.std.proofs.lemmas.Bool.{and_parts, eqb-true}
use Rattle.std.proofs.lemmas.List.Elements.{All-cons, All-contains, All-contains_itself, All-head, All-tail, All-take}
use Rattle.std_collections.proofs.Entries.{lookup-remove_entry_apart}
use Rattle.lru.specs.LruCache.{lru_cache, promoted}
use Rattle.lru.proofs.CallerLemmas.{Contains-lookup_entry, Contains-promoted}
use Rattle.lru.proofs.Pairs.{promoted_absent}
use Rattle.tile_cache.specs.Pairs.{Cache, Pair}
use Rattle.tile_cache.specs.Cache.{same_key, size, after_get, after_put, after_drops}
use Rattle.tile_cache.specs.Kept.{has_room, kept}
use Rattle.tile_cache.specs.declared.Key.{Key}
use Rattle.tile_cache.proofs.Values.{lookup-promoted, promoted-map_values}
use Rattle.tile_cache.proofs.Kept.{dropped_until-take}
use Rattle.kept_cells.specs.Held.{SameHeld, Takes}
use Rattle.kept_cells.specs.Kept.{Kept, key_at, brought}
use Rattle.kept_cells.specs.Tiling.{kept_in, held_in}
use Rattle.kept_cells.specs.inner.Keys.{KeysUpTo}

-- a key with the size of its cell
abbrev item_of : Pair → Key × ℕ
item_of pair = (pair.0, size pair)

-- ---- keys

pub same_is : (k l : Key) → same_key k l ≡ true → k ≡ l
same_is k l h =
    let a = and_parts (k.stage == l.stage) ((k.cell == l.cell) && (k.stamp == l.stamp)) h in
    let b = and_parts (k.cell == l.cell) (k.stamp == l.stamp) a.1 in
    let s = eqb-true k.stage l.stage a.0 in
    let c = eqb-true k.cell l.cell b.0 in
    let t = eqb-true k.stamp l.stamp b.1 in
    ap (λ n. record { stage = n; cell = k.cell; stamp = k.stamp }) s
    ∙ ap (λ n. record { stage = l.stage; cell = n; stamp = k.stamp }) c
    ∙ ap (λ n. record { stage = l.stage; cell = l.cell; stamp = n }) t

pub same_self : (k : Key) → same_key k k ≡ true
same_self k = rw (nat_eq_equiv.refl k.stage, nat_eq_equiv.refl k.cell, nat_eq_equiv.refl k.stamp) refl

-- ---- bringing to the front

-- each key finds the same once a pair is in front
pub lookup_other : (a b : Key) (ps : List Pair) → lookup (same_key b) (promoted (same_key a) ps)
    ≡ lookup (same_key b) ps
lookup_other a b ps = (elim (same_key b a) as (λ x. same_key b a ≡ x → lookup (same_key b) (promoted (same_key a) ps)
    ≡ lookup (same_key b) ps) [
      | true ↦ λ t. let same : b ≡ a = same_is b a t in
          subst (λ (k : Key). lookup (same_key k) (promoted (same_key a) ps) ≡ lookup (same_key k) ps) (sym same)
          (lookup-promoted (same_key a) ps)
      | false ↦ λ t. go t (lookup_entry (same_key a) ps) refl
    ]) refl
  where
    go : same_key b a ≡ false → (o : Option Pair) → lookup_entry (same_key a) ps ≡ o
        → lookup (same_key b) (option_map_or (λ e. e ∷ remove_entry (same_key a) ps) o ps) ≡ lookup (same_key b) ps
    go t None h = refl
    go t (Some e) h =
        let is : a ≡ e.0 = same_is a e.0 (Contains-lookup_entry (same_key a) ps e h).1 in
        let away : same_key b e.0 ≡ false = ap (same_key b) (sym is) ∙ t in
        let apart : (k : Key) → same_key a k ≡ true → same_key b k ≡ false =
        λ k s. ap (same_key b) (sym (same_is a k s)) ∙ t in
        rw away (lookup-remove_entry_apart (same_key a) (same_key b) apart ps)

-- ---- taking the last ones off

lookup_take : (test : Key → Bool) (n : ℕ) (ps : List Pair) → is_some (lookup test (take n ps)) ≡ true
    → lookup test (take n ps) ≡ lookup test ps
lookup_take test zero ps h = cc
lookup_take test (suc n) [] h = refl
lookup_take test (suc n) (e ∷ es) h =
    (elim (test e.0) as (λ b. test e.0 ≡ b → lookup test (take (suc n) (e ∷ es)) ≡ lookup test (e ∷ es)) [
      | true ↦ λ t. rw t refl
      | false ↦ λ t. rw t (lookup_take test n es (rw t at h))
    ]) refl

-- ---- what a look-up leaves

pub found_held : (a b : Cache) (s : List ℕ) (plane cell : ℕ) → b ≡ after_get (key_at (kept_in a s) plane cell) a
    → SameHeld (held_in a s) (held_in b s)
found_held a b s plane cell is =
    let look : (p k : ℕ) → lookup (same_key (key_at (kept_in a s) p k)) b.pairs
    ≡ lookup (same_key (key_at (kept_in a s) p k)) a.pairs = λ p k.
    ap (λ (c : Cache). lookup (same_key (key_at (kept_in a s) p k)) c.pairs) is
    ∙ lookup_other (key_at (kept_in a s) plane cell) (key_at (kept_in a s) p k) a.pairs in
    record {
      holds = λ p k. ap is_some (look p k);
      samples = λ p k. ap (λ (o : Option (List ℕ)). option_map_or (λ xs. xs) o []) (look p k);
    }

abbrev made : List (Key × ℕ) → List ℕ → ℕ → ℕ → Kept
made items stamps slots budget = record {
  items = items;
  stamps = λ p. get_or stamps p 0;
  slots = slots;
  budget = budget;
}

pub found_kept : (a b : Cache) (s : List ℕ) (plane cell : ℕ) → b ≡ after_get (key_at (kept_in a s) plane cell) a
    → kept_in b s ≡ brought (kept_in a s) plane cell
found_kept a b s plane cell is =
    ap (λ (c : Cache). kept_in c s) is
    ∙ ap (λ items. made items s a.slots a.budget)
    (promoted-map_values (λ (xs : List ℕ). length xs) (same_key (key_at (kept_in a s) plane cell)) a.pairs)

pub unfound_kept : (a b : Cache) (s : List ℕ) (plane cell : ℕ) → b ≡ after_get (key_at (kept_in a s) plane cell) a
    → (held_in a s).holds plane cell ≡ false → kept_in b s ≡ kept_in a s
unfound_kept a b s plane cell is absent =
    ap (λ (c : Cache). kept_in c s) is
    ∙ ap (λ (ps : List Pair). made (map item_of ps) s a.slots a.budget)
    (promoted_absent same_key (lru_cache a.pairs a.slots) (key_at (kept_in a s) plane cell) absent).1

-- ---- what a put leaves

-- a list in which only one key may be new
record Fewer (old new : List Pair) (key : Key) (xs : List ℕ) : Type 0 where
  this : is_some (lookup (same_key key) new) ≡ true → lookup (same_key key) new ≡ Some xs
  others : (k : Key) → (k ≡ key → ⊥) → is_some (lookup (same_key k) new) ≡ true
      → lookup (same_key k) new ≡ lookup (same_key k) old

takes_fewer : (a b : Cache) (s : List ℕ) (plane cell : ℕ) (xs : List ℕ)
    → Fewer a.pairs b.pairs (key_at (kept_in a s) plane cell) xs → Takes (held_in a s) (held_in b s) plane cell xs
takes_fewer a b s plane cell xs fewer =
    record {
      this = λ now. ap (λ (o : Option (List ℕ)). option_map_or (λ ys. ys) o []) (fewer.this now);
      others = λ p k apart now.
          let was : lookup (same_key (key_at (kept_in a s) p k)) b.pairs ≡ lookup (same_key (key_at (kept_in a s) p k))
          a.pairs =
          fewer.others (key_at (kept_in a s) p k)
          (λ e. apart (ap (λ (key : Key). key.stage) e) (ap (λ (key : Key). key.cell) e)) now in
          (sym (ap is_some was) ∙ now, ap (λ (o : Option (List ℕ)). option_map_or (λ ys. ys) o []) was);
    }

never : (o : Option (List ℕ)) (P : Type 0) → is_some o ≡ false → is_some o ≡ true → P
never None P a b = cc
never (Some x) P a b = cc

fewer_take : (ps : List Pair) (m : ℕ) (key : Key) (xs : List ℕ) → is_some (lookup (same_key key) ps) ≡ false
    → Fewer ps (take m ps) key xs
fewer_take ps m key xs absent =
    record {
      this = λ now. never (lookup (same_key key) ps) _ absent (sym (ap is_some (lookup_take (same_key key) m ps now))
          ∙ now);
      others = λ k apart now. lookup_take (same_key k) m ps now;
    }

fewer_put : (ps : List Pair) (m : ℕ) (key : Key) (xs : List ℕ) → Fewer ps ((key, xs) ∷ take m ps) key xs
fewer_put ps m key xs =
    record {
      this = λ now. rw (same_self key) refl;
      others = λ k apart now. (elim (same_key k key) as (λ b. same_key k key ≡ b
          → lookup (same_key k) ((key, xs) ∷ take m ps) ≡ lookup (same_key k) ps) [
            | true ↦ λ t. absurd (apart (same_is k key t))
            | false ↦ λ t. rw t (lookup_take (same_key k) m ps (rw t at now))
          ]) refl;
    }

pub refused_takes : (a b : Cache) (s : List ℕ) (plane cell n : ℕ) (xs : List ℕ) → (held_in a s).holds plane cell ≡ false
    → b ≡ after_drops n a → Takes (held_in a s) (held_in b s) plane cell xs
refused_takes a b s plane cell n xs absent is =
    let part = dropped_until-take (has_room size a.slots a.budget n) (length a.pairs) a.pairs in
    takes_fewer a b s plane cell xs
    (subst (λ (ps : List Pair). Fewer a.pairs ps (key_at (kept_in a s) plane cell) xs)
    (sym (ap (λ (c : Cache). c.pairs) is ∙ part.1))
    (fewer_take a.pairs part.0 (key_at (kept_in a s) plane cell) xs absent))

pub stored_takes : (a b : Cache) (s : List ℕ) (plane cell : ℕ) (xs : List ℕ) → (held_in a s).holds plane cell ≡ false
    → b ≡ after_put (key_at (kept_in a s) plane cell) xs a → Takes (held_in a s) (held_in b s) plane cell xs
stored_takes a b s plane cell xs absent is =
    takes_fewer a b s plane cell xs
    (subst (λ (ps : List Pair). Fewer a.pairs ps key xs) (sym (ap (λ (c : Cache). c.pairs) is))
    (go (nat_le (length xs) a.budget)))
  where
    key : Key
    key = key_at (kept_in a s) plane cell

    go : (t : Bool) → Fewer a.pairs (cond t ((key, xs) ∷ kept size a.slots a.budget (length xs) a.pairs) a.pairs) key xs
    go true =
        let part = dropped_until-take (has_room size a.slots a.budget (length xs)) (length a.pairs) a.pairs in
        subst (λ (ps : List Pair). Fewer a.pairs ((key, xs) ∷ ps) key xs) (sym part.1) (fewer_put a.pairs part.0 key xs)
    go false = record { this = λ now. never (lookup (same_key key) a.pairs) _ absent now; others = λ k apart now. refl }

-- ---- stamps

promoted_upto : (n : ℕ) (test : Key → Bool) (ps : List Pair) → KeysUpTo n ps → KeysUpTo n (promoted test ps)
promoted_upto n test ps upto = λ i d within.
    let pair = get_or (promoted test ps) i d in
    let there : Contains ps pair =
    Contains-promoted test ps pair (All-contains_itself (promoted test ps) i d within) in
    All-contains (λ (y : Pair). y.0.stamp ≤ n) ps pair upto there

pub found_keys : (a b : Cache) (n : ℕ) (key : Key) → KeysUpTo n a.pairs → b ≡ after_get key a → KeysUpTo n b.pairs
found_keys a b n key upto is = subst (λ (ps : List Pair). KeysUpTo n ps) (sym (ap (λ (c : Cache). c.pairs) is))
    (promoted_upto n (same_key key) a.pairs upto)

kept_keys : (a : Cache) (n m : ℕ) → KeysUpTo n a.pairs → KeysUpTo n (kept size a.slots a.budget m a.pairs)
kept_keys a n m upto =
    let part = dropped_until-take (has_room size a.slots a.budget m) (length a.pairs) a.pairs in
    subst (λ (ps : List Pair). KeysUpTo n ps) (sym part.1) (All-take (λ (y : Pair). y.0.stamp ≤ n) part.0 a.pairs upto)

pub refused_keys : (a b : Cache) (n m : ℕ) → KeysUpTo n a.pairs → b ≡ after_drops m a → KeysUpTo n b.pairs
refused_keys a b n m upto is = subst (λ (ps : List Pair). KeysUpTo n ps) (sym (ap (λ (c : Cache). c.pairs) is))
    (kept_keys a n m upto)

pub stored_keys : (a b : Cache) (n : ℕ) (key : Key) (xs : List ℕ) → KeysUpTo n a.pairs → key.stamp ≤ n
    → b ≡ after_put key xs a → KeysUpTo n b.pairs
stored_keys a b n key xs upto present is =
    subst (λ (ps : List Pair). KeysUpTo n ps) (sym (ap (λ (c : Cache). c.pairs) is)) (go (nat_le (length xs) a.budget))
  where
    go : (t : Bool) → KeysUpTo n (cond t ((key, xs) ∷ kept size a.slots a.budget (length xs) a.pairs) a.pairs)
    go true = All-cons (λ (y : Pair). y.0.stamp ≤ n) (key, xs) (kept size a.slots a.budget (length xs) a.pairs) present
        (kept_keys a n (length xs) upto)
    go false = upto

-- no key of a later stamp is there
pub later_absent : (n : ℕ) (key : Key) (ps : List Pair) → KeysUpTo n ps → n < key.stamp
    → is_some (lookup (same_key key) ps) ≡ false
later_absent n key [] upto later = refl
later_absent n key (e ∷ es) upto later =
    (elim (same_key key e.0) as (λ b. same_key key e.0 ≡ b → is_some (lookup (same_key key) (e ∷ es)) ≡ false) [
      | true ↦ λ t. let same = ap (λ (k : Key). k.stamp) (same_is key e.0 t) in let old =
          All-head (λ (y : Pair). y.0.stamp ≤ n) e es upto in absurd (omega (arith, same, old))
      | false ↦ λ t. rw t (later_absent n key es (All-tail (λ (y : Pair). y.0.stamp ≤ n) e es upto) later)
    ]) refl
