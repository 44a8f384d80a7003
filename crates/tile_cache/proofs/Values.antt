-- A list of entries beside the same keys with what a function makes of each value: look-ups, and the promoted entry.
use Rattle.std.proofs.Common.{◌≡◌, ◌∙◌, Bool, true, false, cond, List, [], ◌∷◌, map, Option, Some, None, option_map}
use Rattle.std.proofs.Common.{is_some, refl, sym, ap}
use Rattle.std.specs.List.{list_any}
use Rattle.std.specs.Option.{option_map_or}
use Rattle.std.specs.Map.{lookup, lookup_entry, remove_entry}
use Rattle.std.proofs.lemmas.Map.Made.{is_some-lookup, keys_of-map_values}
use Rattle.lru.specs.LruCache.{promoted}
use Rattle.lru.proofs.CallerLemmas.{Contains-lookup_entry}
use Rattle.lru.proofs.Pairs.{lookup-lookup_entry}

module _ {K X Y : Type 0} (f : X → Y) where
  abbrev with_value : K × X → K × Y
  with_value entry = (entry.0, f entry.1)

  pub is_some-map_values : (test : K → Bool) (es : List (K × X))
      → is_some (lookup test (map with_value es)) ≡ is_some (lookup test es)
  is_some-map_values test es =
      is_some-lookup test (map with_value es) ∙ ap (list_any test) (keys_of-map_values f es)
      ∙ sym (is_some-lookup test es)

  lookup_entry-map_values : (test : K → Bool) (es : List (K × X))
      → lookup_entry test (map with_value es) ≡ option_map with_value (lookup_entry test es)
  lookup_entry-map_values test [] = refl
  lookup_entry-map_values test (e ∷ es) = go (test e.0) (lookup_entry-map_values test es)
    where
      go : (b : Bool) → lookup_entry test (map with_value es) ≡ option_map with_value (lookup_entry test es)
          → cond b (Some (with_value e)) (lookup_entry test (map with_value es))
          ≡ option_map with_value (cond b (Some e) (lookup_entry test es))
      go true rest = refl
      go false rest = rest

  remove_entry-map_values : (test : K → Bool) (es : List (K × X))
      → remove_entry test (map with_value es) ≡ map with_value (remove_entry test es)
  remove_entry-map_values test [] = refl
  remove_entry-map_values test (e ∷ es) = go (test e.0) (remove_entry-map_values test es)
    where
      go : (b : Bool) → remove_entry test (map with_value es) ≡ map with_value (remove_entry test es)
          → cond b (map with_value es) (with_value e ∷ remove_entry test (map with_value es))
          ≡ map with_value (cond b es (e ∷ remove_entry test es))
      go true rest = refl
      go false rest = ap (λ ps. with_value e ∷ ps) rest

  pub promoted-map_values : (test : K → Bool) (es : List (K × X))
      → map with_value (promoted test es) ≡ promoted test (map with_value es)
  promoted-map_values test es =
      let ps = map with_value es in
      let front : Option (K × Y) → List (K × Y) = λ o. option_map_or (λ p. p ∷ remove_entry test ps) o ps in
      go (lookup_entry test es) ∙ ap front (sym (lookup_entry-map_values test es))
    where
      go : (o : Option (K × X)) → map with_value (option_map_or (λ e. e ∷ remove_entry test es) o es)
          ≡ option_map_or (λ p. p ∷ remove_entry test (map with_value es)) (option_map with_value o) (map with_value es)
      go None = refl
      go (Some e) = ap (λ ps. with_value e ∷ ps) (sym (remove_entry-map_values test es))

-- ---- for any list of entries

-- a key finds the same once its entry is in front
pub lookup-promoted : {K X : Type 0} (test : K → Bool) (es : List (K × X))
    → lookup test (promoted test es) ≡ lookup test es
lookup-promoted {K} {X} test es = go (lookup_entry test es) refl
  where
    go : (o : Option (K × X)) → lookup_entry test es ≡ o
        → lookup test (option_map_or (λ e. e ∷ remove_entry test es) o es) ≡ lookup test es
    go None is = refl
    go (Some e) is =
        let passes = (Contains-lookup_entry test es e is).1 in
        let value = sym (lookup-lookup_entry test es) ∙ ap (option_map (λ entry. entry.1)) is in
        rw (passes, value) refl
