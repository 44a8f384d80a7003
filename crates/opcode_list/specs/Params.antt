-- The parameters of the opcodes that are run (DNG 1.6, "Opcode List Processing"). None where they can't be run.
use Rattle.std.specs.Prelude.{ℕ, ◌≤◌, ◌+◌, ◌*◌, ◌==◌, ◌&&◌, nat_lt, nat_le, if◌then◌else◌, List, Option, None, Some}
use Rattle.std.specs.Prelude.{length, map}
use Rattle.std.specs.List.{range_with_len}
use Rattle.plane_view.specs.declared.Rect.{Rect}
use Rattle.plane_view.specs.Rectangles.{IsNonEmpty}
use Rattle.opcode_list.specs.declared.opcode.Opcode.{Opcode}
use Rattle.opcode_list.specs.declared.opcode.Opcode.TheVariants.{FixConstant, FixList, Map, Skipped, Trim}
use Rattle.opcode_list.specs.Cuts.{long_at, short_at}

-- a rectangle at a place: top, left, bottom, right
unfoldable pub rect_at : List ℕ → ℕ → Rect
rect_at params place = record {
  top = long_at params place;
  left = long_at params (place + 4);
  bottom = long_at params (place + 8);
  right = long_at params (place + 12);
}

-- FixBadPixelsConstant: the constant and the Bayer phase, which is 0 to 3
unfoldable pub constant_of : List ℕ → Option Opcode
constant_of params =
    if (length params == 8) && nat_le (long_at params 4) 3 then Some (FixConstant (long_at params 0) (long_at params 4))
    else None

-- so many points, row and column, from a place on
unfoldable pub points_at : List ℕ → ℕ → ℕ → List (ℕ × ℕ)
points_at params place count =
    map (λ k. (long_at params (place + 8 * k), long_at params (place + 8 * k + 4))) (range_with_len 0 count)

-- so many rectangles from a place on
unfoldable pub rects_at : List ℕ → ℕ → ℕ → List Rect
rects_at params place count = map (λ k. rect_at params (place + 16 * k)) (range_with_len 0 count)

-- the list of a FixBadPixelsList: the Bayer phase, how many points and how many rectangles, the points, the rectangles
abbrev pub fix_list_of : List ℕ → ℕ → ℕ → Opcode
fix_list_of params points rects =
    FixList (long_at params 0) (points_at params 12 points) (rects_at params (12 + 8 * points) rects)

-- FixBadPixelsList: at most 65,536 points and 1,024 rectangles
unfoldable pub list_of : List ℕ → Option Opcode
list_of params =
    if nat_lt (length params) 12 then None
    else (if (length params == 12 + 8 * long_at params 4 + 16 * long_at params 8)
    && nat_le (long_at params 0) 3
    && nat_le (long_at params 4) 65536
    && nat_le (long_at params 8) 1024
    then Some (fix_list_of params (long_at params 4) (long_at params 8))
    else None)

-- TrimBounds: a rectangle that isn't empty
unfoldable pub trim_of : List ℕ → Option Opcode
trim_of params =
    if (length params == 16)
    && nat_lt (long_at params 0) (long_at params 8)
    && nat_lt (long_at params 4) (long_at params 12)
    then Some (Trim (rect_at params 0))
    else None

-- so many entries of a table from a place on
unfoldable pub table_at : List ℕ → ℕ → ℕ → List ℕ
table_at params place count = map (λ k. short_at params (place + 2 * k)) (range_with_len 0 count)

-- MapTable: a rectangle, the first plane and how many, the pitches of rows and columns, the table's size, the table
unfoldable pub map_of : List ℕ → Option Opcode
map_of params =
    if nat_lt (length params) 36 then None
    else (if (length params == 36 + 2 * long_at params 32)
    && nat_le 1 (long_at params 32)
    && nat_le (long_at params 32) 65536
    && nat_le 1 (long_at params 24)
    && nat_le 1 (long_at params 28)
    then Some (Map (rect_at params 0) (long_at params 16) (long_at params 20) (long_at params 24) (long_at params 28)
    (table_at params 36 (long_at params 32)))
    else None)

-- the opcode of an ID that can be run: 4 FixBadPixelsConstant, 5 FixBadPixelsList, 6 TrimBounds, 7 MapTable
unfoldable pub opcode_with : ℕ → List ℕ → Option Opcode
opcode_with id params =
    if id == 4 then constant_of params
    else (if id == 5 then list_of params
    else (if id == 6 then trim_of params
    else map_of params))

-- what holds of each opcode that is read: one that is run has a phase of 0 to 3, a trim that isn't empty, pitches of at
-- least 1, a table of 1 to 65,536 entries, at most 65,536 points and 1,024 rectangles. Other rectangles may be empty
abbrev pub CanRun : Opcode → Type 0
CanRun (FixConstant constant phase) = phase ≤ 3
CanRun (FixList phase points rects) = (phase ≤ 3) × (length points ≤ 65536) × (length rects ≤ 1024)
CanRun (Trim rect) = IsNonEmpty rect
CanRun (Map rect plane planes row_pitch col_pitch table) =
    (1 ≤ row_pitch) × (1 ≤ col_pitch) × (1 ≤ length table) × (length table ≤ 65536)
CanRun (Skipped id) = Unit {0}

-- bad pixels are mended in lists 1 and 2 alone
abbrev pub MayStandIn : ℕ → Opcode → Type 0
MayStandIn list (FixConstant constant phase) = list ≤ 2
MayStandIn list (FixList phase points rects) = list ≤ 2
MayStandIn list (Trim rect) = Unit {0}
MayStandIn list (Map rect plane planes row_pitch col_pitch table) = Unit {0}
MayStandIn list (Skipped id) = Unit {0}

-- what holds of each opcode of a list
abbrev pub CanRunIn : ℕ → Opcode → Type 0
CanRunIn list opcode = CanRun opcode × MayStandIn list opcode
