use Rattle.std.proofs.Common.{◌≡◌, ◌≤◌, ◌++◌, drop, length, option_map}
use Rattle.toml.specs.Data.{as_integer}
use Rattle.toml.specs.View.{items_view}
use Rattle.dev_settings.specs.File.{listed}
use Rattle.dev_settings.specs.Values.{each}
use Rattle.dev_settings.proofs.file.integers.Given as goal

-- the integers so far, before those of the items that are left
abbrev pub invariant-loop-item : goal.invariant-loop-item
invariant-loop-item l = record {
  few : length l.list ≤ 32;
  count : length l.list ≡ l.item-index;
  so_far : option_map (λ rest. l.list ++ rest) (each as_integer (listed (items_view (drop l.item-index l.items))))
      ≡ each as_integer (listed (items_view l.items));
}
