-- No sample so far is the constant.
use Rattle.std.proofs.Common.{◌≡◌, ◌==◌, ℕ, ◌<◌, false, get_or}
use Rattle.opcode_stages.proofs.fix_constant.FixConstantDefects.next_bad.Given as goal

abbrev pub invariant-loop-k : goal.invariant-loop-k
invariant-loop-k l = (i : ℕ) → i < l.k → (get_or l.sample-items i 0 == l.self.constant) ≡ false
