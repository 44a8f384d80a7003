-- Samples that are mapped through a table (DNG 1.6, MapTable). That a value past the table takes its last entry is this
-- project's own.
use Rattle.std.specs.Prelude.{ℕ, ◌+◌, ◌-◌, ◌%◌, ◌==◌, ◌&&◌, Bool, nat_le, nat_lt, min, if◌then◌else◌, List, length}
use Rattle.std.specs.Prelude.{slice_index}
use Rattle.plane_view.specs.declared.Rect.{Rect}
use Rattle.plane_view.specs.Plane.{Plane, sample, plane_of}
use Rattle.plane_view.specs.Rectangles.{has_pixel}

-- what a map changes: the samples of a rectangle that stand on each so many rows and columns of it, in some planes
pub record Mapping : Type 0 where
  pub rect : Rect
  pub plane : ℕ  -- the first plane
  pub planes : ℕ
  pub row_pitch : ℕ
  pub col_pitch : ℕ
  pub table : List ℕ

-- whether the sample at row r, column c of plane p changes
abbrev pub is_mapped : Mapping → ℕ → ℕ → ℕ → Bool
is_mapped m r c p =
    has_pixel r c m.rect
    && ((r - m.rect.top) % m.row_pitch == 0)
    && ((c - m.rect.left) % m.col_pitch == 0)
    && nat_le m.plane p
    && nat_lt p (m.plane + m.planes)

-- the entry of a value, the last one where the value is past the table
abbrev pub entry_of : List ℕ → ℕ → ℕ
entry_of table value = slice_index table (min value (length table - 1))

-- the sample at row r, column c of plane p, from the samples of the input
abbrev pub mapped_at : Mapping → (ℕ → ℕ → ℕ → ℕ) → ℕ → ℕ → ℕ → ℕ
mapped_at m at r c p = if is_mapped m r c p then entry_of m.table (at r c p) else at r c p

-- the mapped plane
abbrev pub mapped : Mapping → Plane → Plane
mapped m P = plane_of P.rows P.cols P.planes (mapped_at m (sample P))
