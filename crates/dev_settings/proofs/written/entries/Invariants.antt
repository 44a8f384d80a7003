use Rattle.std.proofs.Common.{◌≡◌, ◌++◌, drop, length, take, option_map}
use Rattle.dev_settings.specs.Values.{each, entry_of}
use Rattle.dev_settings.proofs.written.entries.Given as goal

-- the entries so far, before those of the integers that are left
abbrev pub invariant-loop-at : goal.invariant-loop-at
invariant-loop-at l = record {
  size : length l.entries ≡ 9;
  count : length l.integers ≡ 9;
  so_far : option_map (λ rest. take l.at l.entries ++ rest) (each entry_of (drop l.at l.integers))
      ≡ each entry_of l.integers;
}
