use Rattle.std.proofs.Common.{◌≡◌, ℕ, ◌≤◌, ◌-◌, List, take, vec_len}
use Rattle.std.specs.Option.{IfSome}
use Rattle.raw_io.specs.Outside.{SameCounts}
use Rattle.raw_io.proofs.whole.read_into.Given as goal

abbrev pub invariant-loop-count : goal.invariant-loop-count
invariant-loop-count g l = record {
  within : vec_len l.whole ≤ l.limit;
  contents : (other : List ℕ) → g.F.Files.told l.files other ≡ g.F.Files.told l.fn.files other;
  no_fault : SameCounts (g.F.Files.faults l.fn.files) (g.F.Files.faults l.files);
  prefix : IfSome (g.F.Files.told l.fn.files l.name) (λ contents. l.whole.items ≡ take (vec_len l.whole) contents);
}

abbrev pub decreases-loop-count : goal.decreases-loop-count
decreases-loop-count g l = l.limit - vec_len l.whole
