-- Which stage a change of settings touches: this project's own.
use Rattle.std.specs.Prelude.{◌≡◌, ℕ, ◌+◌, ◌-◌, ◌≤◌, if◌then◌else◌, ℤ, pos, int_lt, List, length, slice_get, slice_set}
use Rattle.std.specs.Prelude.{Option, None, Some, Result, Ok, Err}
use Rattle.plane_view.specs.declared.Shape.{Shape}
use Rattle.dng_tags.specs.declared.record.Frame.{Frame}
use Rattle.dev_settings.specs.Settings.{changed}
use Rattle.dev_settings.specs.declared.settings.Change.{Change}
use Rattle.dev_settings.specs.declared.settings.Change.TheVariants as change
use Rattle.dev_settings.specs.declared.settings.Settings.{Settings}
use Rattle.dev_stages.specs.Listed.{listed}
use Rattle.dev_stages.specs.Members.{shaped_of, takes_of}
use Rattle.dev_stages.specs.Plans.{balance_stage, chosen_matrix, demosaic_stage, linear_stage, planned, span_under}
use Rattle.dev_stages.specs.Plans.{tone_stage}
use Rattle.dev_stages.specs.declared.fault.PlanFault.{PlanFault}
use Rattle.dev_stages.specs.declared.fault.PlanFault.TheVariants as fault
use Rattle.dev_stages.specs.declared.stage.DevStage.{DevStage}
use Rattle.dev_stages.specs.declared.stage.DevStage.TheVariants.{Matrix}

-- the number, counted from 1, of the stage of linear values
abbrev pub linear_number : Frame → ℕ
linear_number frame = length (listed frame.list1) + 2

-- the number of the stage of demosaicing, counted from 1
abbrev pub demosaic_number : Frame → ℕ
demosaic_number frame = length (listed frame.list1) + length (listed frame.list2) + 3

-- the number of the stage of balance, counted from 1; the matrix and the tone curve follow
abbrev pub balance_number : Frame → ℕ
balance_number frame =
    length (listed frame.list1) + length (listed frame.list2) + length (listed frame.list3) + 5

-- the number of the stage that a change touches
abbrev pub number_of : Frame → Change → ℕ
number_of frame (change.Black black) = linear_number frame
number_of frame (change.White white) = linear_number frame
number_of frame (change.Demosaic kind) = demosaic_number frame
number_of frame (change.Wb gains) = balance_number frame
number_of frame (change.Exposure exposure) = balance_number frame
number_of frame (change.Matrix choice) = balance_number frame + 1
number_of frame (change.Tone curve) = balance_number frame + 2

-- linear values, where white is above black
abbrev pub linear_or : Frame → Settings → Result DevStage PlanFault
linear_or frame settings =
    if int_lt (pos 0) (span_under frame settings) then Ok (linear_stage frame settings) else Err fault.Levels

-- the matrix, where there is one
abbrev pub matrix_or : Option (List ℤ) → Result DevStage PlanFault
matrix_or None = Err fault.Matrix
matrix_or (Some matrix) = Ok (Matrix matrix)

-- the stage that a change touches, under settings that have it, or its refusal
abbrev pub touched : Frame → Settings → Change → Result DevStage PlanFault
touched frame settings (change.Black black) = linear_or frame settings
touched frame settings (change.White white) = linear_or frame settings
touched frame settings (change.Demosaic kind) = Ok (demosaic_stage frame settings)
touched frame settings (change.Wb gains) = Ok (balance_stage frame settings)
touched frame settings (change.Exposure exposure) = Ok (balance_stage frame settings)
touched frame settings (change.Matrix choice) = matrix_or (chosen_matrix frame.colour settings.matrix)
touched frame settings (change.Tone curve) = Ok (tone_stage settings)

-- stages in which the one of a number, counted from 1, is another one
abbrev pub replaced : ℕ → DevStage → List DevStage → List DevStage
replaced number stage stages = slice_set stages (number - 1) stage

-- a stage in the place of another one: it takes what that one takes, and makes planes of the same shapes
pub record AreLike (old new : DevStage) : Type 0 where
  pub takes : (input : Shape) → takes_of old input → takes_of new input
  pub shapes : (input : Shape) → shaped_of new input ≡ shaped_of old input

-- stages that become those of other settings where the one of a number, counted from 1, becomes another one
pub record Becomes (frame : Frame) (after : Settings) (stages : List DevStage)
    (number : ℕ) (stage : DevStage) : Type 0 where
  pub low : 1 ≤ number
  pub high : number ≤ length stages
  pub all : planned frame after ≡ Ok (replaced number stage stages)
  pub like : (old : DevStage) → slice_get stages (number - 1) ≡ Some old → AreLike old stage

-- whatever settings had the change made to them: where they have stages, those after it are the same but for the one of
-- this number
abbrev pub Replaces : Frame → Change → Settings → ℕ → DevStage → Type 0
Replaces frame change after number stage =
    (before : Settings) (stages : List DevStage) → after ≡ changed change before → planned frame before ≡ Ok stages
    → Becomes frame after stages number stage

-- there is this refusal in place of stages
abbrev pub Refuses : Frame → Change → Settings → PlanFault → Type 0
Refuses frame change after fault =
    (before : Settings) (stages : List DevStage) → after ≡ changed change before → planned frame before ≡ Ok stages
    → planned frame after ≡ Err fault
