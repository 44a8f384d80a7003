-- A plane cut into parts of equal sides. This is this project's own.
use Rattle.std.specs.Prelude.{ℕ, ◌+◌, ◌*◌, ◌/◌, ◌%◌, List, map, min}
use Rattle.std.specs.Int.{div_ceil}
use Rattle.std.specs.List.{range_with_len}
use Rattle.plane_view.specs.declared.Rect.{Rect}
use Rattle.plane_view.specs.declared.Shape.{Shape}

-- how many parts of this many rows and columns a plane is cut into
abbrev pub part_count : Shape → (rows cols : ℕ) → ℕ
part_count shape rows cols = div_ceil shape.rows rows * div_ceil shape.cols cols

-- part k: parts are numbered row by row, and the plane's edges clip them
abbrev pub part : Shape → (rows cols k : ℕ) → Rect
part shape rows cols k =
    let top = k / div_ceil shape.cols cols * rows in
    let left = k % div_ceil shape.cols cols * cols in
    record { top = top; left = left; bottom = min (top + rows) shape.rows; right = min (left + cols) shape.cols }

-- all parts
abbrev pub parts : Shape → (rows cols : ℕ) → List Rect
parts shape rows cols = map (part shape rows cols) (range_with_len 0 (part_count shape rows cols))
