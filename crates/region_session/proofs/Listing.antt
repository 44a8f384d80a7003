-- What is missing, and what is left, by the list of keys alone.
use Rattle.std.proofs.Common.{◌≡◌, ℕ, List, get_or, ◌∙◌, ap}
use Rattle.plane_view.specs.declared.Rect.{Rect}
use Rattle.plane_view.specs.declared.Shape.{Shape}
use Rattle.tile_cache.specs.Cache.{sizes}
use Rattle.tile_cache.specs.Pairs.{Cache}
use Rattle.kept_cells.specs.Kept.{Kept, holding, keep, keep_of}
use Rattle.kept_cells.specs.Laws.{holds_kept}
use Rattle.kept_cells.specs.Missing.{count_of_fetches, count_of_runs}
use Rattle.kept_cells.specs.Tiers.{Tier}
use Rattle.kept_cells.specs.Tiling.{held_in, kept_in}
use Rattle.kept_cells.proofs.Keeping.{keep_same}
use Rattle.kept_cells.proofs.Lower.{fetches_same, runs_same}

-- the keys of a cache of 65,536 slots
abbrev pub listed : Cache → List ℕ → Kept
listed c stamps = record {
  items = sizes c.pairs;
  stamps = λ plane. get_or stamps plane 0;
  slots = 65536;
  budget = c.budget;
}

list_is : (c : Cache) (stamps : List ℕ) → c.slots ≡ 65536 → kept_in c stamps ≡ listed c stamps
list_is c stamps slots = λ i. record {
  items = sizes c.pairs;
  stamps = λ plane. get_or stamps plane 0;
  slots = slots i;
  budget = c.budget;
}

module _ {S : Type 0} (need : S → Shape → Rect → Rect) (cells : List Rect) (tiers : List (Tier S)) (wanted : List Rect)
    (c : Cache) (stamps : List ℕ) (slots : c.slots ≡ 65536) where
  pub fetches_are : count_of_fetches (held_in c stamps) need cells tiers wanted
      ≡ count_of_fetches (holding (listed c stamps)) need cells tiers wanted
  fetches_are =
      fetches_same (holding (kept_in c stamps)) (held_in c stamps) need cells tiers wanted
      (λ p k. holds_kept c stamps p k)
      ∙ ap (λ (K : Kept). count_of_fetches (holding K) need cells tiers wanted) (list_is c stamps slots)

  pub runs_are : count_of_runs (held_in c stamps) need 0 tiers wanted ≡ count_of_runs (holding (listed c stamps)) need 0
      tiers wanted
  runs_are =
      runs_same (holding (kept_in c stamps)) (held_in c stamps) need 0 tiers wanted (λ p k. holds_kept c stamps p k)
      ∙ ap (λ (K : Kept). count_of_runs (holding K) need 0 tiers wanted) (list_is c stamps slots)

  pub keys_are : (planes : ℕ) → keep (held_in c stamps) need (kept_in c stamps) planes cells tiers wanted
      ≡ keep_of need (listed c stamps) planes cells tiers wanted
  keys_are planes =
      keep_same (holding (kept_in c stamps)) (held_in c stamps) need (kept_in c stamps) planes cells tiers wanted
      (λ p k. holds_kept c stamps p k)
      ∙ ap (λ (K : Kept). keep_of need K planes cells tiers wanted) (list_is c stamps slots)
