use Rattle.std.proofs.Common.{◌≡◌, ℕ, ◌+◌, ◌≤◌, List, ◌++◌, length}
use Rattle.dev_settings.specs.Lines.{lines_of, unended}
use Rattle.developer.specs.inner.Reading.{kept_of}
use Rattle.developer.proofs.Readings.{PieceSoFar}
use Rattle.developer.proofs.script.answer_piece.Given as goal

abbrev pub invariant-loop-end : goal.invariant-loop-end
invariant-loop-end g l = record {
  so-far : (before : List ℕ) → lines_of before ≡ unended before → l.fn.line.items ≡ kept_of before
      → PieceSoFar g.O.Sink.stands_for g.O.Sink.faults l.fn.out l.fn.frame l.out (before ++ l.piece) l.rest l.line.items
      l.frame;
  few : l.frame.session.stamps.changes + length l.rest ≤ l.fn.frame.session.stamps.changes + length l.piece;
}

-- the bytes that are left
abbrev pub decreases-loop-end : goal.decreases-loop-end
decreases-loop-end g l = length l.rest
