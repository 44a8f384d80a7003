-- What each kind of stage makes, takes and needs: for each kind the definition of the crate that it stands in. Which
-- kinds there are is this project's own.
use Rattle.std.specs.Prelude.{⊤, ◌≡◌}
use Rattle.plane_view.specs.declared.Rect.{Rect}
use Rattle.plane_view.specs.declared.Shape.{Shape}
use Rattle.plane_view.specs.Plane.{Plane, coloured, crop}
use Rattle.plane_view.specs.Rectangles.{grown, shifted, whole_rect}
use Rattle.stage_core.specs.Planes.{IsPart}
use Rattle.opcode_stages.specs.Crops.{cropped_shape}
use Rattle.opcode_stages.specs.Maps.{mapped}
use Rattle.opcode_stages.specs.Mends.{equals, is_listed, mended}
use Rattle.linearise.specs.Parameters.{IsArea, linear_plane}
use Rattle.malvar.specs.Demosaic.{demosaiced, reach_of, table_of}
use Rattle.malvar.specs.Mosaics.{IsMosaic, cfa_of}
use Rattle.colour_matrix.specs.Balances.{balanced}
use Rattle.colour_matrix.specs.Matrices.{matrixed}
use Rattle.tone_table.specs.Tones.{toned}
use Rattle.dev_stages.specs.declared.stage.DevStage.{DevStage}
use Rattle.dev_stages.specs.declared.stage.DevStage.TheVariants.{Balance, Crop, Demosaic, FixConstant, FixList}
use Rattle.dev_stages.specs.declared.stage.DevStage.TheVariants.{Linearise, Map, Matrix, Tone}

-- the plane that a stage makes of a plane
abbrev pub apply_of : DevStage → Plane → Plane
apply_of (FixConstant s) P = mended (equals s.constant) s.phase P
apply_of (FixList s) P = mended (is_listed s.points s.rects) s.phase P
apply_of (Map s) P = mapped s P
apply_of (Crop s) P = crop P s.rect
apply_of (Linearise s) P = linear_plane s P
apply_of (Demosaic s) P = demosaiced (table_of s.kind) (cfa_of s) P
apply_of (Balance s) P = balanced s P
apply_of (Matrix s) P = matrixed s P
apply_of (Tone s) P = toned s P

-- the shapes that it takes
abbrev pub takes_of : DevStage → Shape → Type 0
takes_of (FixConstant s) input = input.planes ≡ 1
takes_of (FixList s) input = input.planes ≡ 1
takes_of (Map s) input = ⊤
takes_of (Crop s) input = IsPart s.rect input
takes_of (Linearise s) input = IsArea s input
takes_of (Demosaic s) input = IsMosaic input
takes_of (Balance s) input = input.planes ≡ 3
takes_of (Matrix s) input = input.planes ≡ 3
takes_of (Tone s) input = input.planes ≡ 3

-- the shape of what it makes
abbrev pub shaped_of : DevStage → Shape → Shape
shaped_of (FixConstant s) input = input
shaped_of (FixList s) input = input
shaped_of (Map s) input = input
shaped_of (Crop s) input = cropped_shape s.rect input
shaped_of (Linearise s) input = input
shaped_of (Demosaic s) input = coloured input
shaped_of (Balance s) input = input
shaped_of (Matrix s) input = input
shaped_of (Tone s) input = input

-- what a rectangle of it rests on
abbrev pub needed_of : DevStage → Shape → Rect → Rect
needed_of (FixConstant s) input rect = grown rect 2 (whole_rect input.rows input.cols)
needed_of (FixList s) input rect = grown rect 2 (whole_rect input.rows input.cols)
needed_of (Map s) input rect = rect
needed_of (Crop s) input rect = shifted rect s.rect.top s.rect.left
needed_of (Linearise s) input rect = rect
needed_of (Demosaic s) input rect = grown rect (reach_of s.kind) (whole_rect input.rows input.cols)
needed_of (Balance s) input rect = rect
needed_of (Matrix s) input rect = rect
needed_of (Tone s) input rect = rect
