-- The groups of the opcode lists (DNG 1.6, chapter 4, "OpcodeList1", "OpcodeList2", "OpcodeList3"): the opcodes of a
-- list, and the plane that its trims leave.
use Rattle.std.specs.Prelude.{ℕ, List, Result, Ok, Err}
use Rattle.plane_view.specs.Plane.{coloured}
use Rattle.plane_view.specs.Rectangles.{height, width}
use Rattle.plane_view.specs.declared.Rect.{Rect}
use Rattle.plane_view.specs.declared.Shape.{Shape}
use Rattle.opcode_list.specs.Trims.{left_after, trimmed}
use Rattle.opcode_list.specs.declared.opcode.Opcode.{Opcode}
use Rattle.text_line.specs.Chain.{and_then}
use Rattle.tag_rules.specs.Opcodes.{opcodes_under}
use Rattle.tag_rules.specs.Values.{Dirs}
use Rattle.tag_rules.specs.declared.faults.FrameFault.{FrameFault}
use Rattle.tag_rules.specs.declared.faults.FrameFault.TheVariants.{Trim}
use Rattle.dng_tags.specs.declared.listed.Listed.{Listed}
use Rattle.dng_tags.specs.declared.record.Frame.{Frame}

-- the shape of the active area: one plane
abbrev pub area_shape : Rect → Shape
area_shape active = record { rows = height active; cols = width active; planes = 1 }

-- opcodes with the plane that they leave, or the first trim that doesn't lie in the plane that it finds
abbrev pub with_trims : ℕ → List Opcode → Result Shape ℕ → Result Listed FrameFault
with_trims list opcodes (Ok left) = Ok (record { opcodes = opcodes; left = left })
with_trims list opcodes (Err index) = Err (Trim list index)

-- the opcodes of list 1, 2 or 3, which find a plane
unfoldable pub listed_of : Dirs → ℕ → Shape → Result Listed FrameFault
listed_of dirs list found =
    and_then (opcodes_under dirs list) (λ opcodes. with_trims list opcodes (trimmed opcodes found))

-- the shape that list 1 leaves of the frame's plane
abbrev pub after_list1 : Frame → Shape
after_list1 frame = left_after frame.list1 frame.shape

-- the shape that list 2 leaves of the active area
abbrev pub after_list2 : Frame → Shape
after_list2 frame = left_after frame.list2 (area_shape frame.active)

-- the shape that list 3 leaves of the demosaiced plane
abbrev pub after_list3 : Frame → Shape
after_list3 frame = left_after frame.list3 (coloured (after_list2 frame))
