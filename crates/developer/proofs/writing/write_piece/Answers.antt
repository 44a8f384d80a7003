use Rattle.std.proofs.Common.{ℕ, List, Err, refl, subst}
use Rattle.developer.specs.inner.Writes.{Writes, by_write}
use Rattle.developer.proofs.Written.{writes_then_stops}
use Rattle.developer.proofs.writing.write_piece.Goals as goal

pub returns-in-Err-clause-writes : goal.returns-in-Err-clause-writes
returns-in-Err-clause-writes g c first before w =
    writes_then_stops g.O.Sink.stands_for g.O.Sink.faults first c.args.out.now c.write_bytes.new.out before
    c.args.piece.now (λ (n : ℕ). n) (λ (n : ℕ). n) (λ (n : ℕ). n)
    c.args.written (by_write c.in-Err.fault) _ refl refl w
    (subst (λ (bytes : List ℕ). Writes {T = ℕ} g.O.Sink.stands_for g.O.Sink.faults c.args.out.now c.write_bytes.new.out
    bytes (λ n. n) (Err (by_write c.in-Err.fault))) c.as_bytes.ensures c.in-Err.ensures)
