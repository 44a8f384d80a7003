use Rattle.std.proofs.Common.{◌≡◌, ◌≤◌, ◌-◌, length, take}
use Rattle.raw_io.specs.Outside.{Appends}
use Rattle.raw_io.proofs.whole.write_all.Given as goal

abbrev pub invariant-loop-written : goal.invariant-loop-written
invariant-loop-written g l = record {
  within : l.written ≤ length l.bytes;
  no_fault : g.O.Sink.faults l.sink ≡ g.O.Sink.faults l.fn.sink;
  appended : Appends g.O.Sink.stands_for l.fn.sink l.sink (take l.written l.bytes);
}

abbrev pub decreases-loop-written : goal.decreases-loop-written
decreases-loop-written g l = length l.bytes - l.written
