-- Planes that are fetched cell by cell. This is this project's own.
use Rattle.std.specs.Prelude.{◌≡◌, ℕ, ◌+◌, ◌<◌, ◌≤◌, List, length, slice_get, Some, true}
use Rattle.std.specs.Io.Iter.{u64_saturate}
use Rattle.std.specs.List.{list_any}
use Rattle.plane_view.specs.declared.Rect.{Rect}
use Rattle.plane_view.specs.declared.Shape.{Shape}
use Rattle.plane_view.specs.Rectangles.{HasPixel, has_pixel}
use Rattle.stage_core.specs.Planes.{IsPart}

-- the cells make up a plane of this shape: each of them is a part of it, with a pixel, and each pixel of it is in
-- exactly one of them
pub record MakeUp (cells : List Rect) (s : Shape) : Type 0 where
  pub part : (k : ℕ) (rect : Rect) → slice_get cells k ≡ Some rect → IsPart rect s
  pub covered : (r c : ℕ) → r < s.rows → c < s.cols → list_any (has_pixel r c) cells ≡ true
  pub apart : (i k : ℕ) (one other : Rect) → slice_get cells i ≡ Some one → slice_get cells k ≡ Some other → (r c : ℕ)
      → HasPixel one r c → HasPixel other r c → i ≡ k

-- the rectangles of the cells of a base, whose plane has this shape
pub record AreCells (cells : List Rect) (s : Shape) : Type 0 where
  pub some : 1 ≤ length cells
  pub most : length cells ≤ 65536
  pub plane : MakeUp cells s

-- a count that rose by n, held at the greatest number of 64 bits
abbrev pub raised : ℕ → ℕ → ℕ
raised before n = u64_saturate (before + n)
