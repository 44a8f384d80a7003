use Rattle.std.proofs.Common.{◌≡◌, ℕ, ◌<◌, ◌≤◌, pos, true, take, get_or}
use Rattle.std.specs.List.{list_all}
use Rattle.dng_tags.specs.Colours.{gain_of, has_gain}
use Rattle.dng_tags.proofs.colours.fill_gains.Given as goal

abbrev pub invariant-loop-i : goal.invariant-loop-i
invariant-loop-i l = record {
  all : list_all (has_gain (get_or l.neutral 1 (pos 0, pos 0))) (take l.i l.neutral) ≡ true;
  gains : (k : ℕ) → k < l.i → get_or l.gains k 0 ≡ gain_of (get_or l.neutral 1 (pos 0, pos 0))
      (get_or l.neutral k (pos 0, pos 0));
  range : (k : ℕ) → k < l.i → (1 ≤ get_or l.gains k 0) × (get_or l.gains k 0 ≤ 1048576);
}
