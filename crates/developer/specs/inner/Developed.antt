-- Definitions for the contracts between functions of this crate: what holds of developed planes, and of a session that
-- makes them. This is this project's own.
use Rattle.std.specs.Prelude.{◌≡◌, ◌≤◌, List}
use Rattle.plane_view.specs.Plane.{Plane, IsWhole}
use Rattle.stage_core.specs.Stages.{shape_of}
use Rattle.stage_chain.specs.Chains.{whole_of}
use Rattle.region_session.specs.Sessions.{Opened as Session}
use Rattle.region_session.specs.Stacks.{last_shape}
use Rattle.dev_stages.specs.Members.{apply_of, shaped_of}
use Rattle.dev_stages.specs.declared.stage.DevStage.{DevStage}

-- what holds of each developed plane
pub record IsDeveloped (P : Plane) : Type 0 where
  pub rows : P.rows ≤ 8192
  pub cols : P.cols ≤ 8192
  pub planes : P.planes ≡ 3
  pub whole : IsWhole P

-- stages that make a developed plane, of the shape that they tell
pub record Develops (P : Plane) (stages : List DevStage) : Type 0 where
  pub shape : shape_of (whole_of apply_of stages P) ≡ last_shape shaped_of (shape_of P) stages
  pub developed : IsDeveloped (whole_of apply_of stages P)

-- a session has its base's plane, its stages, its side and its stamps as before
pub record StagesStay (old new : Session DevStage) : Type 0 where
  pub plane : new.plane ≡ old.plane
  pub stages : new.stages ≡ old.stages
  pub side : new.side ≡ old.side
  pub stamps : new.stamps ≡ old.stamps
