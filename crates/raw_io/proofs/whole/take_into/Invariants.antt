use Rattle.std.proofs.Common.{◌≡◌, ◌≤◌, ◌-◌, vec_len}
use Rattle.std.specs.Io.KnownBytes.{Consumes}
use Rattle.raw_io.proofs.whole.take_into.Given as goal

abbrev pub invariant-loop-count : goal.invariant-loop-count
invariant-loop-count g l = record {
  within : vec_len l.into ≤ l.limit;
  no_fault : g.C.Source.faults l.source ≡ g.C.Source.faults l.fn.source;
  taken : Consumes (g.C.Source.left l.fn.source) (g.C.Source.left l.source) l.into.items;
}

abbrev pub decreases-loop-count : goal.decreases-loop-count
decreases-loop-count g l = l.limit - vec_len l.into
