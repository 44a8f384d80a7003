-- What a refusal says: the name of the fault, and its fields in decimal, each after one space. This is this project's
-- own.
use Rattle.std.specs.Prelude.{ℕ, List, ◌∷◌, ◌++◌, codes}
use Rattle.text_line.specs.Fields.{field_text}
use Rattle.ljpeg_predict.specs.Faults.{jpeg_fault_text}
use Rattle.opcode_list.specs.Faults.{fault_text as opcode_fault_text}
use Rattle.tag_rules.specs.declared.faults.FrameFault.{FrameFault}
use Rattle.tag_rules.specs.declared.faults.FrameFault.TheVariants.{NotTiff, BadDirectory, BadEntry, FloatTag, NotDng}
use Rattle.tag_rules.specs.declared.faults.FrameFault.TheVariants.{Newer, NoRaw, Photometric, Compression, Depth}
use Rattle.tag_rules.specs.declared.faults.FrameFault.TheVariants.{Samples, Size, Layout, Outside, Cfa, Levels, Active}
use Rattle.tag_rules.specs.declared.faults.FrameFault.TheVariants.{Colour, Crop, Segment, TooLong, Format, Opcode, Trim}
use Rattle.tag_rules.specs.declared.faults.FrameFault.TheVariants.{Memory}
use Rattle.tag_rules.specs.declared.faults.SegmentFault.{SegmentFault}
use Rattle.tag_rules.specs.declared.faults.SegmentFault.TheVariants.{Jpeg, Short}

-- a name with a field
abbrev pub named : List ℕ → ℕ → List ℕ
named name n = name ++ field_text n

-- why a segment can't be decoded
abbrev pub segment_fault_text : SegmentFault → List ℕ
segment_fault_text (Short short) = codes "Short" ++ field_text short.needed ++ field_text short.had
segment_fault_text (Jpeg fault) = codes "Jpeg" ++ 32 ∷ jpeg_fault_text fault

-- why a frame is refused
abbrev pub fault_text : FrameFault → List ℕ
fault_text NotTiff = codes "NotTiff"
fault_text (BadDirectory at) = named (codes "BadDirectory") at
fault_text (BadEntry tag) = named (codes "BadEntry") tag
fault_text (FloatTag tag) = named (codes "FloatTag") tag
fault_text NotDng = codes "NotDng"
fault_text Newer = codes "Newer"
fault_text NoRaw = codes "NoRaw"
fault_text (Photometric v) = named (codes "Photometric") v
fault_text (Compression v) = named (codes "Compression") v
fault_text (Depth v) = named (codes "Depth") v
fault_text (Samples v) = named (codes "Samples") v
fault_text Size = codes "Size"
fault_text Layout = codes "Layout"
fault_text (Outside segment) = named (codes "Outside") segment
fault_text Cfa = codes "Cfa"
fault_text Levels = codes "Levels"
fault_text Active = codes "Active"
fault_text (Colour tag) = named (codes "Colour") tag
fault_text Crop = codes "Crop"
fault_text (Segment segment why) = named (codes "Segment") segment ++ 32 ∷ segment_fault_text why
fault_text TooLong = codes "TooLong"
fault_text (Format v) = named (codes "Format") v
fault_text (Opcode list fault) = named (codes "Opcode") list ++ 32 ∷ opcode_fault_text fault
fault_text (Trim list index) = named (codes "Trim") list ++ field_text index
fault_text Memory = codes "Memory"
