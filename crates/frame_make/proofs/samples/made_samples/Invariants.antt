use Rattle.std.proofs.Common.{◌≡◌}
use Rattle.frame_make.specs.Made.{made_samples}
use Rattle.frame_make.proofs.samples.made_samples.Given as goal

abbrev pub invariant-loop-row : goal.invariant-loop-row
invariant-loop-row l = l.samples.items ≡ made_samples l.number l.w l.row
