-- What the trims of an opcode list leave of a plane (DNG 1.6, "Opcode List Processing", TrimBounds). That a trim which
-- passes the plane that it finds is refused is this project's own.
use Rattle.std.specs.Prelude.{ℕ, ◌+◌, ◌≤◌, ◌&&◌, Bool, nat_le, true, if◌then◌else◌, List, [], ◌∷◌, Option, None, Some}
use Rattle.std.specs.Prelude.{Result}
use Rattle.text_line.specs.Chain.{ok_unless}
use Rattle.plane_view.specs.Rectangles.{height, width}
use Rattle.plane_view.specs.declared.Shape.{Shape}
use Rattle.opcode_list.specs.declared.opcode.Opcode.{Opcode}
use Rattle.opcode_list.specs.declared.opcode.Opcode.TheVariants.{FixConstant, FixList, Map, Skipped, Trim}

-- the shape of what an opcode makes of a plane
abbrev pub left_by : Opcode → Shape → Shape
left_by (FixConstant constant phase) shape = shape
left_by (FixList phase points rects) shape = shape
left_by (Trim rect) shape = record { rows = height rect; cols = width rect; planes = shape.planes }
left_by (Map rect plane planes row_pitch col_pitch table) shape = shape
left_by (Skipped id) shape = shape

-- whether an opcode's trim lies in the plane that it finds
abbrev pub fits : Opcode → Shape → Bool
fits (FixConstant constant phase) shape = true
fits (FixList phase points rects) shape = true
fits (Trim rect) shape = nat_le rect.bottom shape.rows && nat_le rect.right shape.cols
fits (Map rect plane planes row_pitch col_pitch table) shape = true
fits (Skipped id) shape = true

-- the shape of what the opcodes of a list make of a plane, one after the other
unfoldable pub left_after : List Opcode → Shape → Shape
left_after [] shape = shape
left_after (opcode ∷ more) shape = left_after more (left_by opcode shape)

-- the first trim, by its index over all opcodes, that doesn't lie in the plane that it finds
unfoldable pub first_misfit : ℕ → List Opcode → Shape → Option ℕ
first_misfit index [] shape = None
first_misfit index (opcode ∷ more) shape =
    if fits opcode shape then first_misfit (index + 1) more (left_by opcode shape) else Some index

-- the shape that the trims of a list leave, or the first one that doesn't lie in the plane that it finds
abbrev pub trimmed : List Opcode → Shape → Result Shape ℕ
trimmed opcodes shape = ok_unless (first_misfit 0 opcodes shape) (left_after opcodes shape)

-- a shape with pixels, and no more rows and columns than another one
pub record IsPartOf (whole left : Shape) : Type 0 where
  pub some_rows : 1 ≤ left.rows
  pub rows : left.rows ≤ whole.rows
  pub some_cols : 1 ≤ left.cols
  pub cols : left.cols ≤ whole.cols
