-- The bytes of an opcode list cut into opcodes (DNG 1.6, "Opcode List Processing"): the most significant byte of a
-- number stands first, whatever the file's byte order.
use Rattle.std.specs.Prelude.{ℕ, zero, suc, ◌+◌, nat_lt, if◌then◌else◌, List, [], ◌∷◌, Option, None, Some, drop, length}
use Rattle.std.specs.Prelude.{slice_index}
use Rattle.std.specs.List.{slice_range}
use Rattle.byteorder.specs.Endian.{big_number}

-- the 16-bit number at a place
unfoldable pub short_at : List ℕ → ℕ → ℕ
short_at bytes place = big_number 2 (drop place bytes)

-- the 32-bit number at a place
unfoldable pub long_at : List ℕ → ℕ → ℕ
long_at bytes place = big_number 4 (drop place bytes)

-- an opcode as it stands in the bytes: its ID, the first two bytes of the DNG version that it came with, its flags, and
-- the bytes of its parameters
pub record RawOpcode : Type 0 where
  pub id : ℕ
  pub major : ℕ
  pub minor : ℕ
  pub flags : ℕ
  pub params : List ℕ

-- the first opcode of the bytes: an ID, four bytes of version, flags, how many bytes of parameters follow, and those.
-- None where they pass the end
unfoldable pub first_opcode : List ℕ → Option RawOpcode
first_opcode bytes =
    if nat_lt (length bytes) 16 then None
    else (if nat_lt (length bytes) (16 + long_at bytes 12) then None
    else Some (record {
      id = long_at bytes 0;
      major = slice_index bytes 4;
      minor = slice_index bytes 5;
      flags = long_at bytes 8;
      params = slice_range bytes 16 (16 + long_at bytes 12);
    }))

-- so many opcodes one after the other, up to the first that passes the end
unfoldable pub cut_opcodes : ℕ → List ℕ → List (Option RawOpcode)
cut_opcodes zero bytes = []
cut_opcodes (suc count) bytes =
    elim (first_opcode bytes) [
      | None ↦ None ∷ []
      | Some raw ↦ Some raw ∷ cut_opcodes count (drop (16 + length raw.params) bytes)
    ]
