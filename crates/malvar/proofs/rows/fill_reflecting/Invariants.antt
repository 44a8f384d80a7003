use Rattle.std.proofs.Common.{◌-◌}
use Rattle.malvar.specs.inner.Around.{even_site, odd_site}
use Rattle.malvar.specs.inner.Rows.{HasPixels, SameBelow, row_sample}
use Rattle.malvar.proofs.rows.fill_reflecting.Given as goal

abbrev pub invariant-loop-c : goal.invariant-loop-c
invariant-loop-c l = record {
  pixels : HasPixels (row_sample l.kind (even_site l.sites) (odd_site l.sites) l.window) l.first l.out l.from l.c;
  before : SameBelow l.initial.out l.out (l.from - l.first);
}
