-- What a stage of linear values rests on, and the plane that it makes. The values are those of DNG 1.6, chapter 5,
-- "Mapping Raw Values to Linear Reference Values"; the stage is this project's own.
use Rattle.std.specs.Prelude.{◌≡◌, ℕ, ◌+◌, ◌*◌, ◌&&◌, nat_eq, Bool, ℤ, pos, List, slice_index_or}
use Rattle.std.specs.Cmp.Lexicographic.{pointwise}
use Rattle.std.specs.Ordering.{int_eq}
use Rattle.plane_view.specs.Plane.{Plane, sample}
use Rattle.plane_view.specs.declared.Shape.{Shape}
use Rattle.stage_core.specs.Stages.{plane_by, shape_of}
use Rattle.dng_tags.specs.Black.{black_at, row_by_row, span_of}
use Rattle.dng_tags.specs.declared.record.Levels.{Levels}
use Rattle.linearise.specs.Linear.{by_table, linear_at}

-- an area's numbers of rows and columns, the table, the black level of each place, row by row, and how far the white
-- level is above the greatest of them; levels in 256ths
pub record Parameters : Type 0 where
  pub rows : ℕ
  pub cols : ℕ
  pub table : List ℕ
  pub blacks : List ℤ
  pub span : ℤ

-- what levels give over an area of this many rows and columns
abbrev pub parameters : Levels → (rows cols : ℕ) → Parameters
parameters levels rows cols =
    record {
      rows = rows;
      cols = cols;
      table = levels.table;
      blacks = row_by_row rows cols (black_at levels);
      span = span_of levels rows cols;
    }

-- planes of one sample a pixel that are as large as the area
pub record IsArea (s : Parameters) (input : Shape) : Type 0 where
  pub planes : input.planes ≡ 1
  pub rows : input.rows ≡ s.rows
  pub cols : input.cols ≡ s.cols

-- the black level at row r, column c, in 256ths
abbrev pub black_of : Parameters → ℕ → ℕ → ℤ
black_of s r c = slice_index_or s.blacks (r * s.cols + c) (pos 0)

-- the linear value of a sample
abbrev pub linear_of : Parameters → (ℕ → ℕ → ℕ → ℕ) → ℕ → ℕ → ℕ → ℕ
linear_of s at r c p = linear_at s.span (black_of s r c) (by_table s.table (at r c p))

-- the plane of linear values
abbrev pub linear_plane : Parameters → Plane → Plane
linear_plane s P = plane_by (shape_of P) (linear_of s (sample P))

-- whether two are the same
unfoldable pub same_parameters : Parameters → Parameters → Bool
same_parameters s t =
    nat_eq s.rows t.rows
    && (nat_eq s.cols t.cols
    && (pointwise nat_eq s.table t.table && (pointwise int_eq s.blacks t.blacks && int_eq s.span t.span)))
