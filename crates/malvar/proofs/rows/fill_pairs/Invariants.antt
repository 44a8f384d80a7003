use Rattle.std.proofs.Common.{◌+◌, ◌-◌, ◌*◌}
use Rattle.malvar.specs.inner.Rows.{HasPixels, SameBelow, row_sample}
use Rattle.malvar.proofs.rows.fill_pairs.Given as goal

abbrev pub invariant-loop-k : goal.invariant-loop-k
invariant-loop-k l = record {
  pixels : HasPixels (row_sample l.row.kind l.row.even l.row.odd l.window) l.row.first l.out l.from (l.from + l.k * 2);
  before : SameBelow l.initial.out l.out (l.from - l.row.first);
}
