use Rattle.std.proofs.Common.{ℕ, ◌<◌, pos, get_or}
use Rattle.std.specs.Prelude.{◌≤ℤ◌}
use Rattle.dng_tags.specs.inner.Span.{FallsOn}
use Rattle.dng_tags.proofs.span.greatest_on.Given as goal

abbrev pub invariant-loop-k : goal.invariant-loop-k
invariant-loop-k l = record {
  bound : (k : ℕ) → k < l.k → FallsOn l.count l.step l.first k
      → get_or l.deltas k (pos 0) ≤ℤ get_or l.deltas l.at (pos 0);
  there : FallsOn l.count l.step l.first l.at;
}
