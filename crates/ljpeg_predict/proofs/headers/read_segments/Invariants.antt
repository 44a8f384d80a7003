use Rattle.std.proofs.Common.{length, IfSome}
use Rattle.ljpeg_predict.specs.inner.Frames.{IsFrame}
use Rattle.ljpeg_predict.proofs.HeaderLemmas.{HeadersLeft}
use Rattle.ljpeg_predict.proofs.headers.read_segments.Given as goal

abbrev pub invariant-loop-marker : goal.invariant-loop-marker
invariant-loop-marker l = record {
  left : HeadersLeft l.fn.bytes (record { frame = l.frame; tables = l.tables }) l.left;
  whole : IfSome l.frame IsFrame;
}

abbrev pub decreases-loop-marker : goal.decreases-loop-marker
decreases-loop-marker l = length l.left
