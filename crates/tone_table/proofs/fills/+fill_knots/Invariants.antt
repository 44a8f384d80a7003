use Rattle.std.proofs.Common.{length}
use Rattle.tone_table.proofs.fills.+fill_knots.Given as goal

abbrev pub decreases-fill_knots : goal.decreases-fill_knots
decreases-fill_knots l = length l.points.now
