-- The entries of a directory and their values (TIFF 6.0, section 2, "IFD Entry" and "Value/Offset").
use Rattle.std.specs.Prelude.{ℕ, ◌+◌, ◌*◌, ◌==◌, nat_le, Bool, ◌&&◌, if◌then◌else◌, List, [], length, map, take, drop}
use Rattle.std.specs.Prelude.{Option, Result, Ok, Err}
use Rattle.std.specs.List.{find, range_with_len}
use Rattle.std.specs.Option.{option_map, option_transpose}
use Rattle.tiff_dirs.specs.Header.{directory_fits, entry_count, order_of}
use Rattle.tiff_dirs.specs.Kinds.{is_float, is_kind, size_of}
use Rattle.tiff_dirs.specs.Numbers.{long_at, short_at}
use Rattle.tiff_dirs.specs.declared.EntryFault.{EntryFault}
use Rattle.tiff_dirs.specs.declared.EntryFault.TheVariants.{BadEntry, FloatTag}

-- an entry as its 12 bytes say (`kind` is the number of its type), and the place in the file where its value begins
pub record Slot : Type 0 where
  pub tag : ℕ
  pub kind : ℕ
  pub count : ℕ
  pub place : ℕ

-- an entry with the bytes of its value, as they stand in the file
pub record Field : Type 0 where
  pub tag : ℕ
  pub kind : ℕ
  pub count : ℕ
  pub value : List ℕ

-- where the value begins of the entry whose 12 bytes begin at a place: in the entry's last 4 bytes where it
-- takes at most 4, else at the offset that stands there
unfoldable pub value_place : List ℕ → ℕ → ℕ → ℕ
value_place bytes place size =
    if nat_le size 4 then place + 8 else long_at (order_of bytes) bytes (place + 8)

-- the entry whose 12 bytes begin at a place
unfoldable pub slot_at : List ℕ → ℕ → Slot
slot_at bytes place =
    let kind = short_at (order_of bytes) bytes (place + 2) in
    let count = long_at (order_of bytes) bytes (place + 4) in
    record {
      tag = short_at (order_of bytes) bytes place;
      kind = kind;
      count = count;
      place = value_place bytes place (count * size_of kind);
    }

-- the entries of the directory at an offset, in order; none where it doesn't lie in the file
unfoldable pub entries : List ℕ → ℕ → List Slot
entries bytes at =
    if directory_fits bytes at
    then map (λ i. slot_at bytes (at + 2 + 12 * i)) (range_with_len 0 (entry_count bytes at))
    else []

-- how many bytes an entry's value takes
unfoldable pub value_size : Slot → ℕ
value_size slot = slot.count * size_of slot.kind

-- whether an entry's value lies in the file
unfoldable pub value_fits : List ℕ → Slot → Bool
value_fits bytes slot = nat_le (slot.place + value_size slot) (length bytes)

-- an entry with its value
unfoldable pub field_of : List ℕ → Slot → Field
field_of bytes slot = record {
  tag = slot.tag;
  kind = slot.kind;
  count = slot.count;
  value = take (value_size slot) (drop slot.place bytes);
}

-- what looking at an entry answers: a value of a type FLOAT or DOUBLE isn't read; one of no type, or that
-- doesn't lie in the file, is bad
unfoldable pub field_or_fault : List ℕ → Slot → Result Field EntryFault
field_or_fault bytes slot =
    if is_float slot.kind
    then Err (FloatTag slot.tag)
    else (if is_kind slot.kind && value_fits bytes slot then Ok (field_of bytes slot) else Err (BadEntry slot.tag))

-- the same for an entry that was found, or none
abbrev pub answer_of : List ℕ → Option Slot → Result (Option Field) EntryFault
answer_of bytes found = option_transpose (option_map (field_or_fault bytes) found)

-- what looking for a tag in the directory at an offset answers: its first entry with that tag
unfoldable pub entry_of : List ℕ → ℕ → ℕ → Result (Option Field) EntryFault
entry_of bytes at tag = answer_of bytes (find (λ slot. slot.tag == tag) (entries bytes at))
