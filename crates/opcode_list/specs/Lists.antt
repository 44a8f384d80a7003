-- An opcode list, or its first refusal (DNG 1.6, "Opcode List Processing"). Which opcodes are run, and the limits, are
-- this project's own.
use Rattle.std.specs.Prelude.{ℕ, ◌+◌, ◌==◌, ◌&&◌, ◌||◌, Bool, nat_le, nat_lt, if◌then◌else◌, List, [], ◌∷◌}
use Rattle.std.specs.Prelude.{Option, None, Some, Result, Ok, Err, bit_and, drop, length, not, ok_or}
use Rattle.std.specs.Option.{option_map_or}
use Rattle.text_line.specs.Chain.{AnswersUnless, and_then}
use Rattle.opcode_list.specs.declared.opcode.Opcode.{Opcode}
use Rattle.opcode_list.specs.declared.opcode.Opcode.TheVariants.{Skipped}
use Rattle.opcode_list.specs.declared.opcode.OpcodeFault.{OpcodeFault}
use Rattle.opcode_list.specs.declared.opcode.OpcodeFault.TheVariants.{BadParams, Memory, Newer, NotHere, TooMany}
use Rattle.opcode_list.specs.declared.opcode.OpcodeFault.TheVariants.{Truncated, Unknown}
use Rattle.opcode_list.specs.Cuts.{RawOpcode, cut_opcodes, long_at}
use Rattle.opcode_list.specs.Params.{opcode_with}

-- a DNG version after 1.6
abbrev pub is_newer : (major minor : ℕ) → Bool
is_newer major minor = nat_lt 1 major || ((major == 1) && nat_lt 6 minor)

-- an ID that can be run, 4 to 7: `opcode_with` names them
abbrev pub is_known : ℕ → Bool
is_known id = nat_le 4 id && nat_le id 7

-- an ID that can't be run in a list: bad pixels (4 and 5) aren't mended in list 3, whose plane is demosaiced
abbrev pub is_misplaced : ℕ → ℕ → Bool
is_misplaced list id = (list == 3) && nat_le 4 id && nat_le id 5

-- why an opcode can't be run, whatever its parameters
unfoldable pub barred_by : ℕ → ℕ → RawOpcode → Option OpcodeFault
barred_by list index raw =
    if is_newer raw.major raw.minor then Some (Newer index raw.id)
    else (if not (is_known raw.id) then Some (Unknown index raw.id)
    else (if is_misplaced list raw.id then Some (NotHere index raw.id)
    else None))

-- bit 0 of the flags: the opcode may be passed over
abbrev pub is_optional : ℕ → Bool
is_optional flags = bit_and flags 1 == 1

-- an opcode that can't be run is passed over where it may be
abbrev pub passed_over : RawOpcode → OpcodeFault → Result Opcode OpcodeFault
passed_over raw fault = if is_optional raw.flags then Ok (Skipped raw.id) else Err fault

-- an opcode that can be run is run whatever its flags, where its parameters tell one
abbrev pub unless_barred : ℕ → RawOpcode → Option OpcodeFault → Result Opcode OpcodeFault
unless_barred index raw (Some fault) = passed_over raw fault
unless_barred index raw None = ok_or (opcode_with raw.id raw.params) (BadParams index raw.id)

-- one opcode of a list by its index, or its refusal
unfoldable pub opcode_of : ℕ → ℕ → RawOpcode → Result Opcode OpcodeFault
opcode_of list index raw = unless_barred index raw (barred_by list index raw)

-- the same of one that may pass the end
abbrev pub opcode_at : ℕ → ℕ → Option RawOpcode → Result Opcode OpcodeFault
opcode_at list index cut = option_map_or (opcode_of list index) cut (Err (Truncated index))

-- opcodes by their indices from one on, or the first refusal
unfoldable pub opcodes_from : ℕ → ℕ → List (Option RawOpcode) → Result (List Opcode) OpcodeFault
opcodes_from list index [] = Ok []
opcodes_from list index (cut ∷ cuts) =
    and_then (opcode_at list index cut)
    (λ opcode. and_then (opcodes_from list (index + 1) cuts)
    (λ more. Ok (opcode ∷ more)))

-- the list that the value of the tag OpcodeList1, 2 or 3 tells: a count, at most 16, and the opcodes. Bytes behind the
-- last one aren't looked at
unfoldable pub opcodes_of : ℕ → List ℕ → Result (List Opcode) OpcodeFault
opcodes_of list bytes =
    if nat_lt (length bytes) 4 then Err (Truncated 0)
    else (if nat_lt 16 (long_at bytes 0) then Err TooMany
    else opcodes_from list 0 (cut_opcodes (long_at bytes 0) (drop 4 bytes)))

-- what a call that takes memory answers: its definition's answer, or that it is out of memory
abbrev pub Answers : {A : Type 0} → Result A OpcodeFault → Result A OpcodeFault → Type 0
Answers result want = AnswersUnless Memory result want
