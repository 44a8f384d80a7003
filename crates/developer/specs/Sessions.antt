-- The session of a frame's stages as the answers to lines see it: what regions and changes of settings make of its
-- counts, its keys and its stamps. It knows no samples that are kept. This is this project's own.
use Rattle.std.specs.Prelude.{◌≡◌, ℕ, ◌+◌, ◌-◌, ◌*◌, ◌/◌, List, [], ◌∷◌, Bool, false, not, map, max, min, slice_get}
use Rattle.std.specs.Prelude.{if◌then◌else◌, Option, None, Some}
use Rattle.std.specs.Int.{div_ceil}
use Rattle.std.specs.List.{range_with_len}
use Rattle.plane_view.specs.declared.Rect.{Rect}
use Rattle.stage_core.specs.Bases.{raised}
use Rattle.stage_deps.specs.Stamping.{Stamped, changed}
use Rattle.region_session.specs.Sessions.{Opened as Session, keys_after, missing_fetches, missing_runs}
use Rattle.dev_settings.specs.declared.settings.Settings.{Settings}
use Rattle.dev_stages.specs.Members.{needed_of, shaped_of}
use Rattle.dev_stages.specs.contracts.stage.DevStagePartialEq.TheImpl.{ghosts}
use Rattle.dev_stages.specs.declared.stage.DevStage.{DevStage}
use Rattle.dng_tags.specs.declared.record.Frame.{Frame}

-- what is in force between two lines: the frame's record, the settings, and the session of the stages that they give
pub record InForce : Type 0 where
  pub frame : Frame
  pub settings : Settings
  pub session : Session DevStage

-- a frame's record, settings and a session, as what is in force
abbrev pub in_force : Frame → Settings → Session DevStage → InForce
in_force frame settings session = record { frame = frame; settings = settings; session = session }

-- how many cells a band makes: those that it needs and that aren't held
abbrev pub cells_of_band : Session DevStage → Rect → ℕ
cells_of_band s band = missing_fetches shaped_of needed_of s band + missing_runs shaped_of needed_of s band

-- the session after a band
abbrev pub after_band : Session DevStage → Rect → Session DevStage
after_band s band = record s {
  fetches = raised s.fetches (missing_fetches shaped_of needed_of s band);
  fetched = raised s.fetched (missing_fetches shaped_of needed_of s band);
  ran = raised s.ran (missing_runs shaped_of needed_of s band);
  keys = keys_after shaped_of needed_of s band;
}

-- the session after these bands, made one after the other
abbrev pub after_bands : Session DevStage → List Rect → Session DevStage
after_bands s [] = s
after_bands s (band ∷ bands) = after_bands (after_band s band) bands

-- how many cells these bands make, one after the other
abbrev pub cells_of_bands : Session DevStage → List Rect → ℕ
cells_of_bands s [] = 0
cells_of_bands s (band ∷ bands) = cells_of_band s band + cells_of_bands (after_band s band) bands

-- the rows of a rectangle that lie in row k of the cells of a side
abbrev pub band_at : (side : ℕ) → Rect → ℕ → Rect
band_at side rect k = record rect { top = max rect.top (k * side); bottom = min rect.bottom (k * side + side) }

-- the bands of a rectangle, from the top: one for each row of cells that it meets
abbrev pub bands_of : (side : ℕ) → Rect → List Rect
bands_of side rect = map (band_at side rect)
    (range_with_len (rect.top / side) (div_ceil rect.bottom side - rect.top / side))

-- one stage becomes another: it isn't of the same kind with equal parameters
abbrev pub is_another : Option DevStage → Option DevStage → Bool
is_another (Some old) (Some new) = not (ghosts.eq old new)
is_another old new = false

-- the stamps where stage k, counted from 1, becomes another, or doesn't
abbrev pub stamped_if : Bool → ℕ → Stamped → Stamped
stamped_if another k stamps = if another then changed k stamps else stamps

-- the session with these stages, of which that of number k may be another one than before
abbrev pub restaged : Session DevStage → ℕ → List DevStage → Session DevStage
restaged s k stages = record s {
  stages = stages;
  stamps = stamped_if (is_another (slice_get s.stages (k - 1)) (slice_get stages (k - 1))) k s.stamps;
}
