-- The first column in one of the rectangles so far.
use Rattle.std.proofs.Common.{take}
use Rattle.std.specs.List.{list_any}
use Rattle.plane_view.specs.Rectangles.{has_pixel}
use Rattle.opcode_stages.specs.inner.MendRows.{IsNextBad}
use Rattle.opcode_stages.proofs.rects.next_in.Given as goal

abbrev pub invariant-loop-rect : goal.invariant-loop-rect
invariant-loop-rect l = IsNextBad (λ c. list_any (has_pixel l.r c) (take l.rect-index l.rects)) l.from l.to l.next
