use Rattle.std.proofs.Common.{pos}
use Rattle.std.specs.Prelude.{neg_ℤ, ◌≤ℤ◌}
use Rattle.dng_tags.specs.Black.{across_at}
use Rattle.dng_tags.specs.inner.Span.{FallsBefore, IsGreatest}
use Rattle.dng_tags.proofs.span.greatest_in_rows.Given as goal

abbrev pub invariant-loop-j : goal.invariant-loop-j
invariant-loop-j l = record {
  greatest : IsGreatest (FallsBefore l.cols l.levels.black_cols l.j) (across_at l.levels l.fn.i) l.most;
  low : neg_ℤ (pos 134217728) ≤ℤ l.most;
  high : l.most ≤ℤ pos 134217728;
}
