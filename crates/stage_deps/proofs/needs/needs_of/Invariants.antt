use Rattle.std.proofs.Common.{◌≡◌, map, take}
use Rattle.stage_deps.proofs.needs.needs_of.Given as goal

-- what the rectangles so far need
abbrev pub invariant-loop-rect : goal.invariant-loop-rect
invariant-loop-rect g l = l.needs.items ≡ map (g.S.Stage.needed l.stage l.input) (take l.rect-index l.rects)
