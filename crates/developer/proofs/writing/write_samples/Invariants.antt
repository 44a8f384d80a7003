use Rattle.std.proofs.Common.{length}
use Rattle.developer.proofs.Pieces.{Appended}
use Rattle.developer.proofs.writing.write_samples.Given as goal

-- the samples before the rest were appended
abbrev pub invariant-loop-rest : goal.invariant-loop-rest
invariant-loop-rest g l = Appended g.O.Sink.stands_for g.O.Sink.faults l.format l.fn.out l.out l.samples l.rest
    l.fn.piece l.piece l.fn.written l.written

-- the samples that are left
abbrev pub decreases-loop-rest : goal.decreases-loop-rest
decreases-loop-rest g l = length l.rest
