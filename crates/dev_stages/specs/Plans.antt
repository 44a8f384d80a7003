-- The stages of a development in their order (DNG 1.6, chapters 5 and 6, for linear values and colours). The order, the
-- settings and the refusals are this project's own.
use Rattle.std.specs.Prelude.{ℕ, ◌++◌, if◌then◌else◌, ℤ, pos, int_lt, List, [], ◌∷◌, Option}
use Rattle.std.specs.Prelude.{None, Some, option_map, unwrap_or, Result, Ok, Err}
use Rattle.std.specs.Option.{option_map_or}
use Rattle.plane_view.specs.Rectangles.{height, width}
use Rattle.dng_tags.specs.Black.{span_of}
use Rattle.dng_tags.specs.declared.record.Colour.{Colour}
use Rattle.dng_tags.specs.declared.record.Frame.{Frame}
use Rattle.dng_tags.specs.declared.record.Levels.{Levels}
use Rattle.linearise.specs.Parameters.{parameters}
use Rattle.linearise.specs.Settings.{under}
use Rattle.malvar.specs.declared.Kind.{Kind}
use Rattle.malvar.specs.Mosaics.{with_colours}
use Rattle.malvar.specs.declared.stage.Demosaic.{Demosaic as AnyDemosaic}
use Rattle.colour_matrix.specs.Matrices.{camera_matrix, forward_matrix}
use Rattle.tone_table.specs.Tones.{curve_table}
use Rattle.dev_settings.specs.declared.settings.MatrixChoice.{MatrixChoice}
use Rattle.dev_settings.specs.declared.settings.MatrixChoice.TheVariants as choice
use Rattle.dev_settings.specs.declared.settings.Settings.{Settings}
use Rattle.dev_stages.specs.Listed.{listed, moved}
use Rattle.dev_stages.specs.declared.fault.PlanFault.{PlanFault}
use Rattle.dev_stages.specs.declared.fault.PlanFault.TheVariants as fault
use Rattle.dev_stages.specs.declared.stage.DevStage.{DevStage}
use Rattle.dev_stages.specs.declared.stage.DevStage.TheVariants.{Balance, Crop, Demosaic, Linearise, Matrix, Tone}

-- demosaicing of a kind under a pattern
abbrev pub mosaic : Kind → List ℕ → AnyDemosaic
mosaic kind cfa = record { kind = kind; pattern = with_colours cfa }

-- the frame's second forward matrix, else its first, else none
abbrev pub auto_matrix : Colour → List ℤ
auto_matrix colour =
    option_map_or forward_matrix colour.forward2 (option_map_or forward_matrix colour.forward1 camera_matrix)

-- the matrix of a choice; none where the frame doesn't have the one that it names
abbrev pub chosen_matrix : Colour → MatrixChoice → Option (List ℤ)
chosen_matrix colour choice.Auto = Some (auto_matrix colour)
chosen_matrix colour choice.Camera = Some camera_matrix
chosen_matrix colour choice.Forward1 = option_map forward_matrix colour.forward1
chosen_matrix colour choice.Forward2 = option_map forward_matrix colour.forward2
chosen_matrix colour (choice.Own entries) = Some entries

-- the frame's levels under settings
abbrev pub levels_under : Frame → Settings → Levels
levels_under frame settings = under frame.levels settings.black settings.white

-- how raw values become linear
abbrev pub linear_stage : Frame → Settings → DevStage
linear_stage frame settings =
    Linearise (parameters (levels_under frame settings) (height frame.active) (width frame.active))

-- demosaicing under the pattern that the trims of list 2 leave
abbrev pub demosaic_stage : Frame → Settings → DevStage
demosaic_stage frame settings = Demosaic (mosaic settings.demosaic (moved frame.list2 frame.cfa))

-- white balance and exposure
abbrev pub balance_stage : Frame → Settings → DevStage
balance_stage frame settings =
    Balance (record { gains = unwrap_or settings.wb frame.colour.gains; exposure = settings.exposure })

-- the tone curve
abbrev pub tone_stage : Settings → DevStage
tone_stage settings = Tone (curve_table settings.tone)

-- the stages of a frame in their order: list 1, the active area, linear values, list 2, demosaicing, list 3, the
-- default crop, balance, matrix, tone
unfoldable pub in_order : Frame → (linear demosaic balance matrix tone : DevStage) → List DevStage
in_order frame linear demosaic balance matrix tone =
    listed frame.list1
    ++ (Crop (record { rect = frame.active })
    ∷ linear
    ∷ (listed frame.list2
    ++ (demosaic
    ∷ (listed frame.list3
    ++ (Crop (record { rect = frame.crop })
    ∷ balance
    ∷ matrix
    ∷ tone
    ∷ [])))))

-- the stages of a frame by settings and a matrix
unfoldable pub stages_with : Frame → Settings → List ℤ → List DevStage
stages_with frame settings matrix =
    in_order frame (linear_stage frame settings) (demosaic_stage frame settings) (balance_stage frame settings)
    (Matrix matrix) (tone_stage settings)

-- how far white is above the greatest black under settings
abbrev pub span_under : Frame → Settings → ℤ
span_under frame settings = span_of (levels_under frame settings) (height frame.active) (width frame.active)

-- the stages by a matrix, where there is one, and white is above black
abbrev pub planned_with : Frame → Settings → Option (List ℤ) → Result (List DevStage) PlanFault
planned_with frame settings None = Err fault.Matrix
planned_with frame settings (Some matrix) =
    if int_lt (pos 0) (span_under frame settings) then Ok (stages_with frame settings matrix) else Err fault.Levels

-- the stages of a frame under settings, or their first refusal
abbrev pub planned : Frame → Settings → Result (List DevStage) PlanFault
planned frame settings = planned_with frame settings (chosen_matrix frame.colour settings.matrix)
