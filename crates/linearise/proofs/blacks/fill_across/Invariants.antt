use Rattle.std.proofs.Common.{◌≡◌, ℕ, ◌/◌, ◌%◌, ◌<◌, pos, get_or}
use Rattle.tag_rules.specs.Quantities.{IsWithin}
use Rattle.dng_tags.specs.Black.{across_at}
use Rattle.linearise.proofs.blacks.fill_across.Given as goal

abbrev pub invariant-loop-k : goal.invariant-loop-k
invariant-loop-k l = record {
  within : (j : ℕ) → j < l.k → IsWithin 33554432 (get_or l.out j (pos 0));
  levels : (j : ℕ) → j < l.k → get_or l.out j (pos 0) ≡ across_at l.levels (j / l.fn.cols) (j % l.fn.cols);
}
