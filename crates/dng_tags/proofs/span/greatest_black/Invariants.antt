use Rattle.std.proofs.Common.{pos}
use Rattle.std.specs.Prelude.{neg_ℤ, ◌≤ℤ◌}
use Rattle.dng_tags.specs.inner.Span.{FallsBefore, IsGreatestBlack}
use Rattle.dng_tags.proofs.span.greatest_black.Given as goal

abbrev pub invariant-loop-i : goal.invariant-loop-i
invariant-loop-i l = record {
  greatest : IsGreatestBlack (FallsBefore l.rows l.levels.black_rows l.i) l.levels l.cols l.most;
  low : neg_ℤ (pos 268435456) ≤ℤ l.most;
  high : l.most ≤ℤ pos 268435456;
}
