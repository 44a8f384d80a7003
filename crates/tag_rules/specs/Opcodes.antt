-- The opcode lists of a frame (DNG 1.6, chapter 4, "OpcodeList1", "OpcodeList2", "OpcodeList3").
use Rattle.std.specs.Prelude.{ℕ, ◌==◌, if◌then◌else◌, List, [], Option, None, Some, Result, Ok}
use Rattle.std.specs.Result.{result_map_both}
use Rattle.text_line.specs.Chain.{and_then}
use Rattle.tiff_dirs.specs.Entries.{Field}
use Rattle.opcode_list.specs.Lists.{opcodes_of}
use Rattle.opcode_list.specs.declared.opcode.Opcode.{Opcode as AnyOpcode}
use Rattle.opcode_list.specs.declared.opcode.OpcodeFault.{OpcodeFault}
use Rattle.tag_rules.specs.Values.{Dirs, field_at}
use Rattle.tag_rules.specs.declared.faults.FrameFault.{FrameFault}
use Rattle.tag_rules.specs.declared.faults.FrameFault.TheVariants.{Opcode}
use Rattle.tag_rules.specs.declared.tags.Tag.{Tag}
use Rattle.tag_rules.specs.declared.tags.Tag.TheVariants.{OpcodeList1, OpcodeList2, OpcodeList3}

-- the tag of an opcode list
abbrev pub list_tag : ℕ → Tag
list_tag list = if list == 1 then OpcodeList1 else (if list == 2 then OpcodeList2 else OpcodeList3)

-- a list, or that it can't be run
abbrev pub taken : ℕ → Result (List AnyOpcode) OpcodeFault → Result (List AnyOpcode) FrameFault
taken list answer = result_map_both (λ opcodes. opcodes) (Opcode list) answer

-- the opcodes of a list; none where it isn't there
abbrev pub opcodes_in : ℕ → Option Field → Result (List AnyOpcode) FrameFault
opcodes_in list None = Ok []
opcodes_in list (Some field) = taken list (opcodes_of list field.value)

-- the opcodes of list 1, 2 or 3
unfoldable pub opcodes_under : Dirs → ℕ → Result (List AnyOpcode) FrameFault
opcodes_under dirs list = and_then (field_at dirs.bytes dirs.raw (list_tag list)) (opcodes_in list)
