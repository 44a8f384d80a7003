use Rattle.std.proofs.Common.{ℕ, ◌<◌, pos, get_or}
use Rattle.tag_rules.specs.Quantities.{IsWithin}
use Rattle.stage_tests.proofs.linear.are_within.Given as goal

abbrev pub invariant-loop-level : goal.invariant-loop-level
invariant-loop-level l = (k : ℕ) → k < l.level-index → IsWithin 16777216 (get_or l.levels k (pos 0))
