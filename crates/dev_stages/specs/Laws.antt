-- Laws of the stages of any kind: what `impl Stage` of `DevStage` cites, by the laws of each kind.
use Rattle.std.proofs.Common.{◌≡◌, true}
use Rattle.plane_view.specs.declared.Rect.{Rect}
use Rattle.plane_view.specs.declared.Shape.{Shape}
use Rattle.plane_view.specs.Plane.{Plane, coloured}
use Rattle.plane_view.specs.Rectangles.{grown, shifted, whole_rect}
use Rattle.plane_view.specs.Shapes.{IsShape}
use Rattle.stage_core.specs.Planes.{IsPart, IsPlane}
use Rattle.stage_core.specs.Stages.{AreAlike, IsLocal}
use Rattle.stage_core.proofs.Formulas.{local_by, planes_by}
use Rattle.stage_core.proofs.Parts.{grown_is_part}
use Rattle.opcode_stages.specs.CropLaws.{crop_alike, crop_needs, crop_rests, crop_shapes}
use Rattle.opcode_stages.specs.Crops.{cropped_at, cropped_shape}
use Rattle.opcode_stages.specs.MapLaws.{map_alike, map_rests}
use Rattle.opcode_stages.specs.Maps.{mapped_at}
use Rattle.opcode_stages.specs.MendEquality.{constant_alike, list_alike}
use Rattle.opcode_stages.specs.MendLaws.{equals_rests, listed_rests, mend_rests}
use Rattle.opcode_stages.specs.Mends.{equals, is_listed, mended_at}
use Rattle.linearise.specs.Equal.{same_stages}
use Rattle.linearise.specs.Laws.{linear_rests}
use Rattle.linearise.specs.Parameters.{linear_of}
use Rattle.malvar.specs.Demosaic.{demosaiced_at, reach_of, table_of}
use Rattle.malvar.specs.Equal.{same_mosaics}
use Rattle.malvar.specs.Laws.{coloured_is_shape, reads_near}
use Rattle.malvar.specs.Mosaics.{cfa_of}
use Rattle.colour_matrix.specs.Balances.{balanced_at}
use Rattle.colour_matrix.specs.Equal.{same_balances, same_matrices}
use Rattle.colour_matrix.specs.Laws.{balanced_rests, matrixed_rests}
use Rattle.colour_matrix.specs.Matrices.{matrixed_at}
use Rattle.tone_table.specs.Laws.{entry_rests, same_tones}
use Rattle.tone_table.specs.Tones.{entry_at}
use Rattle.dev_stages.specs.declared.stage.DevStage.{DevStage}
use Rattle.dev_stages.specs.declared.stage.DevStage.TheVariants.{Balance, Crop, Demosaic, FixConstant, FixList}
use Rattle.dev_stages.specs.declared.stage.DevStage.TheVariants.{Linearise, Map, Matrix, Tone}
use Rattle.dev_stages.specs.contracts.stage.DevStagePartialEq.TheImpl.{ghosts}
use Rattle.dev_stages.specs.Members.{apply_of, needed_of, shaped_of, takes_of}

-- of a shape that it takes, a stage makes a shape
pub shapes_of : (s : DevStage) (input : Shape) → IsShape input → takes_of s input → IsShape (shaped_of s input)
shapes_of (FixConstant s) input is takes = is
shapes_of (FixList s) input is takes = is
shapes_of (Map s) input is takes = is
shapes_of (Crop s) input is takes = crop_shapes s.rect input is takes
shapes_of (Linearise s) input is takes = is
shapes_of (Demosaic s) input is takes = coloured_is_shape input is
shapes_of (Balance s) input is takes = is
shapes_of (Matrix s) input is takes = is
shapes_of (Tone s) input is takes = is

-- of a plane that it takes, a stage makes a plane of its shape
pub planes_of : (s : DevStage) (input : Shape) (P : Plane) → takes_of s input → IsPlane P input
    → IsPlane (apply_of s P) (shaped_of s input)
planes_of (FixConstant s) input P takes is =
    planes_by (λ t. t) (λ t at. mended_at (equals s.constant at) s.phase t.rows t.cols at) input P is
planes_of (FixList s) input P takes is =
    planes_by (λ t. t) (λ t at. mended_at (is_listed s.points s.rects at) s.phase t.rows t.cols at) input P is
planes_of (Map s) input P takes is = planes_by (λ t. t) (λ t at. mapped_at s at) input P is
planes_of (Crop s) input P takes is = planes_by (cropped_shape s.rect) (λ whole at. cropped_at s.rect at) input P is
planes_of (Linearise s) input P takes is = planes_by (λ t. t) (λ t at. linear_of s at) input P is
planes_of (Demosaic s) input P takes is =
    planes_by coloured (λ t at. demosaiced_at (table_of s.kind) (cfa_of s) t.rows t.cols at) input P is
planes_of (Balance s) input P takes is = planes_by (λ t. t) (λ t at. balanced_at s at) input P is
planes_of (Matrix s) input P takes is = planes_by (λ t. t) (λ t at. matrixed_at s at) input P is
planes_of (Tone s) input P takes is = planes_by (λ t. t) (λ t at. entry_at s at) input P is

-- what a stage needs for a part of its plane is a part of the plane below
pub parts_of : (s : DevStage) (input : Shape) (rect : Rect) → takes_of s input → IsPart rect (shaped_of s input)
    → IsPart (needed_of s input rect) input
parts_of (FixConstant s) input rect takes part = grown_is_part 2 input.planes input rect part
parts_of (FixList s) input rect takes part = grown_is_part 2 input.planes input rect part
parts_of (Map s) input rect takes part = part
parts_of (Crop s) input rect takes part = crop_needs s.rect input rect takes part
parts_of (Linearise s) input rect takes part = part
parts_of (Demosaic s) input rect takes part = grown_is_part (reach_of s.kind) 3 input rect part
parts_of (Balance s) input rect takes part = part
parts_of (Matrix s) input rect takes part = part
parts_of (Tone s) input rect takes part = part

-- each stage is local: a part of its plane rests on what it needs for that part alone
pub local_of : (s : DevStage) (input : Shape) (rect : Rect) → takes_of s input → IsPart rect (shaped_of s input)
    → IsLocal (apply_of s) input (needed_of s input rect) rect
local_of (FixConstant s) input rect takes part =
    local_by (λ t. t) (λ t at. mended_at (equals s.constant at) s.phase t.rows t.cols at) input
    (grown rect 2 (whole_rect input.rows input.cols)) rect part
    (mend_rests (equals s.constant) (equals_rests s.constant) s.phase input rect takes part)
local_of (FixList s) input rect takes part =
    local_by (λ t. t) (λ t at. mended_at (is_listed s.points s.rects at) s.phase t.rows t.cols at) input
    (grown rect 2 (whole_rect input.rows input.cols)) rect part
    (mend_rests (is_listed s.points s.rects) (listed_rests s.points s.rects) s.phase input rect takes part)
local_of (Map s) input rect takes part = local_by (λ t. t) (λ t at. mapped_at s at) input rect rect part
    (map_rests s input rect)
local_of (Crop s) input rect takes part = local_by (cropped_shape s.rect) (λ whole at. cropped_at s.rect at) input
    (shifted rect s.rect.top s.rect.left) rect part (crop_rests s.rect input rect)
local_of (Linearise s) input rect takes part = local_by (λ t. t) (λ t at. linear_of s at) input rect rect part
    (linear_rests s input.planes rect)
local_of (Demosaic s) input rect takes part =
    local_by coloured (λ t at. demosaiced_at (table_of s.kind) (cfa_of s) t.rows t.cols at) input
    (grown rect (reach_of s.kind) (whole_rect input.rows input.cols)) rect part
    (reads_near s.kind (cfa_of s) input rect takes part)
local_of (Balance s) input rect takes part = local_by (λ t. t) (λ t at. balanced_at s at) input rect rect part
    (balanced_rests s input.planes rect)
local_of (Matrix s) input rect takes part = local_by (λ t. t) (λ t at. matrixed_at s at) input rect rect part
    (matrixed_rests s input.planes rect takes)
local_of (Tone s) input rect takes part = local_by (λ t. t) (λ t at. entry_at s at) input rect rect part
    (entry_rests s input.planes rect)

-- equal stages take, make and need the same
pub alike_of : (s t : DevStage) → ghosts.eq s t ≡ true → AreAlike takes_of shaped_of needed_of apply_of s t
alike_of (FixConstant s) (FixConstant t) h = let a = constant_alike s t h in
    record { inputs = a.inputs; shapes = a.shapes; needs = a.needs; meanings = a.meanings }
alike_of (FixList s) (FixList t) h = let a = list_alike s t h in
    record { inputs = a.inputs; shapes = a.shapes; needs = a.needs; meanings = a.meanings }
alike_of (Map s) (Map t) h = let a = map_alike s t h in
    record { inputs = a.inputs; shapes = a.shapes; needs = a.needs; meanings = a.meanings }
alike_of (Crop s) (Crop t) h = let a = crop_alike s t h in
    record { inputs = a.inputs; shapes = a.shapes; needs = a.needs; meanings = a.meanings }
alike_of (Linearise s) (Linearise t) h = let a = same_stages s t h in
    record { inputs = a.inputs; shapes = a.shapes; needs = a.needs; meanings = a.meanings }
alike_of (Demosaic s) (Demosaic t) h = let a = same_mosaics s t h in
    record { inputs = a.inputs; shapes = a.shapes; needs = a.needs; meanings = a.meanings }
alike_of (Balance s) (Balance t) h = let a = same_balances s t h in
    record { inputs = a.inputs; shapes = a.shapes; needs = a.needs; meanings = a.meanings }
alike_of (Matrix s) (Matrix t) h = let a = same_matrices s t h in
    record { inputs = a.inputs; shapes = a.shapes; needs = a.needs; meanings = a.meanings }
alike_of (Tone s) (Tone t) h = let a = same_tones s t h in
    record { inputs = a.inputs; shapes = a.shapes; needs = a.needs; meanings = a.meanings }
alike_of _ _ h = absurd (cc)
