use Rattle.std.proofs.Common.{◌≡◌}
use Rattle.frame_make.specs.Made.{made_strip}
use Rattle.frame_make.specs.declared.Make.TheVariants.{Packed12}
use Rattle.frame_make.proofs.strips.packed_strip.Given as goal

abbrev pub invariant-loop-row : goal.invariant-loop-row
invariant-loop-row l = l.strip.items ≡ made_strip l.number l.w l.row Packed12
