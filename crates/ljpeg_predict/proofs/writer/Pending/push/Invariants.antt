use Rattle.std.proofs.Common.{◌++◌, ◌≤◌, ◌<◌, ◌^◌}
use Rattle.std.specs.Io.{StartsWith}
use Rattle.binary_digits.specs.Digits.{bits_of}
use Rattle.ljpeg_predict.specs.inner.Writing.{Adds}
use Rattle.ljpeg_predict.proofs.writer.Pending.push.Given as goal

abbrev pub invariant-loop-held : goal.invariant-loop-held
invariant-loop-held l = record {
  bits : Adds l.fn.out.items l.out.items (bits_of l.fn.self.held l.fn.self.word ++ bits_of l.size l.number)
      (record { word = l.word; held = l.held });
  kept : StartsWith l.out.items l.fn.out.items;
  short : l.held ≤ 31;
  narrow : l.word < 2 ^ 32;
}

abbrev pub decreases-loop-held : goal.decreases-loop-held
decreases-loop-held l = l.held
