-- What a refusal line says of an opcode list, which is this project's own: the fault's name, and its numbers in
-- decimal, each after a space.
use Rattle.std.specs.Prelude.{ℕ, List, ◌++◌, codes}
use Rattle.text_line.specs.Fields.{field_text}
use Rattle.opcode_list.specs.declared.opcode.OpcodeFault.{OpcodeFault}
use Rattle.opcode_list.specs.declared.opcode.OpcodeFault.TheVariants.{BadParams, Memory, Newer, NotHere, TooMany}
use Rattle.opcode_list.specs.declared.opcode.OpcodeFault.TheVariants.{Truncated, Unknown}

-- the name of a fault, and its numbers
abbrev pub fault_text : OpcodeFault → List ℕ
fault_text TooMany = codes "TooMany"
fault_text (Truncated index) = codes "Truncated" ++ field_text index
fault_text (Newer index id) = codes "Newer" ++ field_text index ++ field_text id
fault_text (Unknown index id) = codes "Unknown" ++ field_text index ++ field_text id
fault_text (NotHere index id) = codes "NotHere" ++ field_text index ++ field_text id
fault_text (BadParams index id) = codes "BadParams" ++ field_text index ++ field_text id
fault_text Memory = codes "Memory"
