use Rattle.std.proofs.Common.{length}
use Rattle.dev_stages.proofs.listed.+moved.Given as goal

abbrev pub decreases-moved : goal.decreases-moved
decreases-moved l = length l.opcodes.now
