-- Definitions for the contracts between functions of this crate: what a map holds, and a row of samples that is mapped,
-- plane by plane. This is this project's own.
use Rattle.std.specs.Prelude.{◌≡◌, ℕ, ◌+◌, ◌-◌, ◌*◌, ◌%◌, ◌<◌, ◌≤◌, ◌==◌, ◌&&◌, Bool, nat_le, nat_lt, if◌then◌else◌}
use Rattle.std.specs.Prelude.{List, length, slice_index}
use Rattle.opcode_stages.specs.Maps.{entry_of}

-- pitches of at least 1, and a table with an entry
pub record IsApart (row_pitch col_pitch : ℕ) (table : List ℕ) : Type 0 where
  pub rows : 1 ≤ row_pitch
  pub cols : 1 ≤ col_pitch
  pub some : 1 ≤ length table

-- whether column k is one of those from one column on, at a pitch, up to another
abbrev pub is_column : (from to pitch k : ℕ) → Bool
is_column from to pitch k = nat_le from k && nat_lt k to && ((k - from) % pitch == 0)

-- in a row of pixels of so many samples, the samples of plane p at these columns are mapped, and the others stay
abbrev pub MapsColumns : (table old new : List ℕ) (planes p from to pitch : ℕ) → Type 0
MapsColumns table old new planes p from to pitch =
    (k q : ℕ) → q < planes → slice_index new (k * planes + q)
    ≡ (if (q == p) && is_column from to pitch k then entry_of table (slice_index old (k * planes + q))
    else slice_index old (k * planes + q))

-- the first number from a start on, at a pitch, that is not below another
pub record IsFirstFrom (start pitch low first : ℕ) : Type 0 where
  pub not_before : start ≤ first
  pub not_below : low ≤ first
  pub stepped : (first - start) % pitch ≡ 0
  pub least : (k : ℕ) → start ≤ k → low ≤ k → k < first → (k - start) % pitch ≡ 0 → ⊥

-- the samples of the planes from one up to another are mapped at these columns, and the others stay
abbrev pub MapsPlanes : (table old new : List ℕ) (planes first last from to pitch : ℕ) → Type 0
MapsPlanes table old new planes first last from to pitch =
    (k q : ℕ) → q < planes → slice_index new (k * planes + q)
    ≡ (if (nat_le first q && nat_lt q last) && is_column from to pitch k
    then entry_of table (slice_index old (k * planes + q))
    else slice_index old (k * planes + q))
