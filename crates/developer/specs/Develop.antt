-- The whole development: each stage once, over the whole plane.
use Rattle.std.specs.Prelude.{◌≡◌, List, Ok, unwrap_or}
use Rattle.plane_view.specs.Plane.{Plane}
use Rattle.dng_tags.specs.declared.record.Frame.{Frame}
use Rattle.stage_chain.specs.Chains.{whole_of}
use Rattle.colour_matrix.specs.Matrices.{camera_matrix}
use Rattle.dev_settings.specs.Ranges.{SettingsInRange}
use Rattle.dev_settings.specs.declared.settings.Settings.{Settings}
use Rattle.dev_stages.specs.Members.{apply_of}
use Rattle.dng_tags.specs.Facts.{IsPlannable}
use Rattle.dev_stages.specs.Plans.{chosen_matrix, planned, stages_with}
use Rattle.dev_stages.specs.declared.stage.DevStage.{DevStage}
use Rattle.developer.specs.Sessions.{InForce}

-- the stages of a frame under settings; without the forward matrix that they name, by no matrix
abbrev pub stages_under : Frame → Settings → List DevStage
stages_under frame settings =
    stages_with frame settings (unwrap_or (chosen_matrix frame.colour settings.matrix) camera_matrix)

-- the whole development of an accepted frame under settings: its stages in their order, each applied once to the whole
-- plane, from its raw plane on
unfoldable pub develop : Plane → Frame → Settings → Plane
develop raw frame settings = whole_of apply_of (stages_under frame settings) raw

-- frame and settings are in their ranges, and the session has the stages that they give
pub record IsInForce (now : InForce) : Type 0 where
  pub frame : IsPlannable now.frame
  pub settings : SettingsInRange now.settings
  pub stages : planned now.frame now.settings ≡ Ok now.session.stages
