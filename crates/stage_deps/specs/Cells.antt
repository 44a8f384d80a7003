-- Cells of a plane, and the ones that meet rectangles. This is this project's own.
use Rattle.std.specs.Prelude.{ℕ, ◌+◌, List, [], ◌∷◌, map, get_or, min, max, Bool, cond, ◌&&◌, nat_lt}
use Rattle.std.specs.List.{list_any}
use Rattle.plane_view.specs.declared.Rect.{Rect}

-- two rectangles have a pixel in common
abbrev pub meets : Rect → Rect → Bool
meets a b = nat_lt (max a.top b.top) (min a.bottom b.bottom) && nat_lt (max a.left b.left) (min a.right b.right)

-- a rectangle meets one of these
abbrev pub meets_one : List Rect → Rect → Bool
meets_one rects cell = list_any (meets cell) rects

-- the numbers, rising, of the cells that meet one of the rectangles; the first cell has the number k
abbrev pub meeting_from : List Rect → ℕ → List Rect → List ℕ
meeting_from rects k [] = []
meeting_from rects k (cell ∷ cells) =
    cond (meets_one rects cell) (k ∷ meeting_from rects (k + 1) cells) (meeting_from rects (k + 1) cells)

-- the numbers, rising, of the cells that meet one of the rectangles
abbrev pub meeting : List Rect → List Rect → List ℕ
meeting cells rects = meeting_from rects 0 cells

-- a rectangle of no pixel, for a number that is no cell's
abbrev pub no_rect : Rect
no_rect = record { top = 0; left = 0; bottom = 0; right = 0 }

-- the rectangle of cell k
abbrev pub cell_at : List Rect → ℕ → Rect
cell_at cells k = get_or cells k no_rect

-- the rectangles of the cells of these numbers
abbrev pub cells_at : List Rect → List ℕ → List Rect
cells_at cells numbers = map (cell_at cells) numbers
