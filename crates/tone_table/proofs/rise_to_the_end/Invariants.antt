use Rattle.std.proofs.Common.{◌≡◌, drop}
use Rattle.tone_table.specs.Knots.{rise_to}
use Rattle.tone_table.proofs.rise_to_the_end.Given as goal

abbrev pub invariant-loop-point : goal.invariant-loop-point
invariant-loop-point l = rise_to 65535 l.last (drop l.point-index l.points) ≡ rise_to 65535 0 l.points
