-- The levels of black and white (DNG 1.6, chapter 4, "LinearizationTable", "BlackLevelRepeatDim", "BlackLevel",
-- "BlackLevelDeltaH", "BlackLevelDeltaV", "WhiteLevel", and chapter 5, "Mapping Raw Values to Linear Reference
-- Values"). Levels in 256ths and their limits are this project's own.
use Rattle.std.specs.Prelude.{ℕ, ◌+◌, ◌-◌, ◌*◌, ◌/◌, ◌%◌, ◌^◌, ◌==◌, nat_le, ◌&&◌, if◌then◌else◌, ℤ, pos, ◌+ℤ◌, ◌-ℤ◌}
use Rattle.std.specs.Prelude.{int_lt, List, [], map, length, slice_index, slice_index_or, Option, None, Some}
use Rattle.std.specs.Prelude.{Result, Ok, Err, unwrap_or, replicate}
use Rattle.std.specs.Int.{int_max}
use Rattle.std.specs.List.{range_with_len, reduce}
use Rattle.std.specs.Option.{option_map_or}
use Rattle.plane_view.specs.Rectangles.{height, width}
use Rattle.plane_view.specs.declared.Rect.{Rect}
use Rattle.text_line.specs.Chain.{and_then}
use Rattle.tag_rules.specs.Quantities.{level_scale, on_scale}
use Rattle.tag_rules.specs.Values.{Dirs, fractions_of, number_of, numbers_of}
use Rattle.dng_tags.specs.declared.black.Repeat.{Repeat}
use Rattle.tag_rules.specs.declared.faults.FrameFault.{FrameFault}
use Rattle.tag_rules.specs.declared.faults.FrameFault.TheVariants.{Levels as LevelsFault}
use Rattle.dng_tags.specs.declared.record.Levels.{Levels}
use Rattle.tag_rules.specs.declared.tags.Tag.{Tag}
use Rattle.tag_rules.specs.declared.tags.Tag.TheVariants.{BlackLevel, BlackLevelDeltaH, BlackLevelDeltaV}
use Rattle.tag_rules.specs.declared.tags.Tag.TheVariants.{BlackLevelRepeatDim, LinearizationTable, WhiteLevel}

-- the black level that row i of the pattern gives in column c of the area, and what that column adds
abbrev pub across_at : Levels → (i c : ℕ) → ℤ
across_at levels i c =
    slice_index_or levels.black (i * levels.black_cols + c % levels.black_cols) (pos 0)
    +ℤ slice_index_or levels.delta_h c (pos 0)

-- the black level at row r, column c of the active area: that of the pattern's place, and what its column and its row
-- add
abbrev pub black_at : Levels → (r c : ℕ) → ℤ
black_at levels r c =
    across_at levels (r % levels.black_rows) c +ℤ slice_index_or levels.delta_v r (pos 0)

-- the greatest of numbers, of which there is at least one
abbrev pub greatest : List ℤ → ℤ
greatest xs = unwrap_or (reduce int_max xs) (pos 0)

-- the numbers of an area of this many rows and columns, row by row
unfoldable pub row_by_row : (rows cols : ℕ) → (ℕ → ℕ → ℤ) → List ℤ
row_by_row rows cols f = map (λ i. f (i / cols) (i % cols)) (range_with_len 0 (rows * cols))

-- the greatest black level of an active area of this many rows and columns
unfoldable pub greatest_black : Levels → (rows cols : ℕ) → ℤ
greatest_black levels rows cols = greatest (row_by_row rows cols (black_at levels))

-- how far the white level is above the greatest black level, in 256ths
unfoldable pub span_of : Levels → (rows cols : ℕ) → ℤ
span_of levels rows cols = pos (256 * levels.white) -ℤ greatest_black levels rows cols

-- the table, empty where there is none
unfoldable pub table_of : Dirs → Result (List ℕ) FrameFault
table_of dirs = and_then (numbers_of dirs LinearizationTable) (λ found. Ok (unwrap_or found []))

-- the size of the pattern of black levels
abbrev pub repeat_in : List ℕ → Repeat
repeat_in xs = record { rows = slice_index xs 0; cols = slice_index xs 1 }

-- the size of the pattern by its tag, one by one where that is absent
unfoldable pub repeat_of : Dirs → Result Repeat FrameFault
repeat_of dirs =
    and_then (numbers_of dirs BlackLevelRepeatDim) (λ found.
    let repeat = option_map_or repeat_in found (record { rows = 1; cols = 1 }) in
    if nat_le 1 repeat.rows && nat_le repeat.rows 8 && nat_le 1 repeat.cols && nat_le repeat.cols 8
    then Ok repeat else Err LevelsFault)

-- levels of which there are `count`; where they are absent, `zero_count` zeros
abbrev pub levels_or : (count zero_count : ℕ) → Option (List (ℤ × ℤ)) → Result (List ℤ) FrameFault
levels_or count zero_count None = Ok (replicate zero_count (pos 0))
levels_or count zero_count (Some qs) =
    if length qs == count then on_scale level_scale LevelsFault qs else Err LevelsFault

-- the levels under a tag
unfoldable pub levels_under : Dirs → Tag → (count zero_count : ℕ) → Result (List ℤ) FrameFault
levels_under dirs tag count zero_count = and_then (fractions_of dirs tag) (λ found. levels_or count zero_count found)

-- the white level: that of the first sample; the greatest sample of the depth where the tag is absent
unfoldable pub white_of : Dirs → (depth : ℕ) → Result ℕ FrameFault
white_of dirs depth =
    and_then (number_of dirs WhiteLevel) (λ found.
    let white = unwrap_or found (2 ^ depth - 1) in
    if nat_le 1 white && nat_le white 65535 then Ok white else Err LevelsFault)

-- levels whose white is above every black of the active area
unfoldable pub spanning : Rect → Levels → Result Levels FrameFault
spanning active levels =
    if int_lt (pos 0) (span_of levels (height active) (width active)) then Ok levels else Err LevelsFault

-- the group of the levels
unfoldable pub levels_of : Dirs → (depth : ℕ) → Rect → Result Levels FrameFault
levels_of dirs depth active =
    and_then (table_of dirs) (λ table.
    and_then (repeat_of dirs) (λ repeat.
    let count = repeat.rows * repeat.cols in
    and_then (levels_under dirs BlackLevel count count) (λ black.
    and_then (levels_under dirs BlackLevelDeltaH (width active) 0) (λ delta_h.
    and_then (levels_under dirs BlackLevelDeltaV (height active) 0) (λ delta_v.
    and_then (white_of dirs depth) (λ white.
    spanning active (record {
      table = table;
      black_rows = repeat.rows;
      black_cols = repeat.cols;
      black = black;
      delta_h = delta_h;
      delta_v = delta_v;
      white = white;
    })))))))
