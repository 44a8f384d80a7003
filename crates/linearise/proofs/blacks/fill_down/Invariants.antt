use Rattle.std.proofs.Common.{◌≡◌, ℕ, ◌<◌, pos, get_or}
use Rattle.tag_rules.specs.Quantities.{IsWithin}
use Rattle.linearise.proofs.blacks.fill_down.Given as goal

abbrev pub invariant-loop-k : goal.invariant-loop-k
invariant-loop-k l = record {
  within : (j : ℕ) → j < l.k → IsWithin 16777216 (get_or l.out j (pos 0));
  levels : (j : ℕ) → j < l.k → get_or l.out j (pos 0) ≡ get_or l.deltas j (pos 0);
}
