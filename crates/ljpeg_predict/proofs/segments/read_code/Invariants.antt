use Rattle.std.proofs.Common.{◌≡◌, ◌≤◌, length}
use Rattle.ljpeg_predict.specs.Segments.{code_at}
use Rattle.ljpeg_predict.proofs.segments.read_code.Given as goal

abbrev pub invariant-loop-byte : goal.invariant-loop-byte
invariant-loop-byte l = (code_at l.rest ≡ code_at l.bytes) × (length l.rest ≤ length l.bytes)

abbrev pub decreases-loop-byte : goal.decreases-loop-byte
decreases-loop-byte l = length l.rest
