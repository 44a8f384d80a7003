use Rattle.std.proofs.Common.{length}
use Rattle.region_session.proofs.bands.+make.Given as goal

abbrev pub decreases-make : goal.decreases-make
decreases-make g l = length l.stages.now
