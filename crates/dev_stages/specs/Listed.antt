-- The stages of opcode lists, and how trims move the pattern (DNG 1.6, "Opcode List Processing"). The order of rows and
-- columns in a moved pattern is this project's own.
use Rattle.std.specs.Prelude.{ℕ, ◌+◌, List, [], ◌∷◌, Option, None, Some}
use Rattle.std.specs.List.{filter_map}
use Rattle.plane_view.specs.declared.Rect.{Rect}
use Rattle.opcode_list.specs.declared.opcode.Opcode.{Opcode}
use Rattle.opcode_list.specs.declared.opcode.Opcode.TheVariants.{FixConstant, FixList, Map, Skipped, Trim}
use Rattle.malvar.specs.Pattern.{colour_at}
use Rattle.dev_stages.specs.declared.stage.DevStage.{DevStage}
use Rattle.dev_stages.specs.declared.stage.DevStage.TheVariants as stage

-- the stage of an opcode; none of one that is passed over
abbrev pub opcode_stage : Opcode → Option DevStage
opcode_stage (FixConstant constant phase) = Some (stage.FixConstant (record { constant = constant; phase = phase }))
opcode_stage (FixList phase points rects) =
    Some (stage.FixList (record { phase = phase; points = points; rects = rects }))
opcode_stage (Trim rect) = Some (stage.Crop (record { rect = rect }))
opcode_stage (Map rect plane planes row_pitch col_pitch table) =
    Some (stage.Map (record {
      rect = rect;
      plane = plane;
      planes = planes;
      row_pitch = row_pitch;
      col_pitch = col_pitch;
      table = table;
    }))
opcode_stage (Skipped id) = None

-- the stages of a list, one opcode after the other
unfoldable pub listed : List Opcode → List DevStage
listed opcodes = filter_map opcode_stage opcodes

-- the pattern of 2 by 2 of the part of a plane that a rectangle has: row i and column j of the part are row i + top and
-- column j + left of the plane
abbrev pub pattern_from : Rect → List ℕ → List ℕ
pattern_from rect cfa =
    colour_at cfa rect.top rect.left
    ∷ colour_at cfa rect.top (1 + rect.left)
    ∷ colour_at cfa (1 + rect.top) rect.left
    ∷ colour_at cfa (1 + rect.top) (1 + rect.left)
    ∷ []

-- the pattern of what an opcode leaves of a plane
abbrev pub moved_by : Opcode → List ℕ → List ℕ
moved_by (FixConstant constant phase) cfa = cfa
moved_by (FixList phase points rects) cfa = cfa
moved_by (Trim rect) cfa = pattern_from rect cfa
moved_by (Map rect plane planes row_pitch col_pitch table) cfa = cfa
moved_by (Skipped id) cfa = cfa

-- the pattern of what the opcodes of a list leave, one after the other
unfoldable pub moved : List Opcode → List ℕ → List ℕ
moved [] cfa = cfa
moved (opcode ∷ more) cfa = moved more (moved_by opcode cfa)
