-- The stages of a frame, and the shapes that they take.
use Rattle.std.proofs.Common.{◌≡◌, ℕ, ◌<◌, ◌≤◌, Bool, true, false, List, [], ◌∷◌, ◌++◌}
use Rattle.std.proofs.Common.{ℤ, pos, ◌≤ℤ◌, ◌<ℤ◌, int_lt, Ok, Err, refl, sym, ◌∙◌, ap}
use Rattle.std.proofs.Common.{subst, arith, ◌↔◌, ◌≢◌}
use Rattle.std.proofs.lemmas.List.{append_assoc}
use Rattle.std.proofs.lemmas.Bool.{cond-false, cond-true}
use Rattle.std.proofs.lemmas.Int.{ints}
use Rattle.stage_chain.specs.Chains.{TakeInTurn}
use Rattle.opcode_list.specs.Trims.{IsPartOf, left_after}
use Rattle.dng_tags.specs.Facts.{IsPlannable}
use Rattle.dng_tags.specs.Listed.{after_list1, after_list2, area_shape}
use Rattle.dng_tags.specs.declared.record.Frame.{Frame}
use Rattle.dev_settings.specs.declared.settings.Settings.{Settings}
use Rattle.plane_view.specs.Plane.{coloured}
use Rattle.plane_view.specs.Rectangles.{height, width}
use Rattle.opcode_stages.specs.Crops.{cropped_shape}
use Rattle.linearise.specs.Parameters.{Parameters, parameters}
use Rattle.linearise.specs.declared.fault.LineariseFault.{LineariseFault}
use Rattle.linearise.specs.declared.fault.LineariseFault.TheVariants as linearise
use Rattle.dev_stages.specs.declared.stage.DevStage.{DevStage}
use Rattle.dev_stages.specs.declared.stage.DevStage.TheVariants as stage
use Rattle.dev_stages.specs.Changes.{linear_or}
use Rattle.dev_stages.specs.Listed.{listed}
use Rattle.dev_stages.specs.Members.{shaped_of, takes_of}
use Rattle.dev_stages.specs.inner.Faults.{linear_fault}
use Rattle.dev_stages.specs.Plans.{balance_stage, demosaic_stage, in_order, levels_under, linear_stage}
use Rattle.dev_stages.specs.Plans.{planned, span_under, stages_with, tone_stage}
use Rattle.dev_stages.specs.declared.fault.PlanFault.TheVariants as fault
use Rattle.dev_stages.proofs.ChangeLemmas.{has, last_four}
use Rattle.dev_stages.proofs.ListLemmas.{all_run, left_part, listed_then, planes_left}

-- the stages behind list 3
abbrev behind_list3 : Frame → Settings → List ℤ → List DevStage
behind_list3 frame settings matrix = last_four frame (balance_stage frame settings) (stage.Matrix matrix)
    (tone_stage settings)

-- those of list 3 and on
abbrev last_stages : Frame → Settings → List ℤ → List DevStage
last_stages frame settings matrix = listed frame.list3 ++ behind_list3 frame settings matrix

-- those of list 2 and on
abbrev middle_stages : Frame → Settings → List ℤ → List DevStage
middle_stages frame settings matrix = listed frame.list2
    ++ (demosaic_stage frame settings ∷ last_stages frame settings matrix)

-- the active area is small
pub small_area : (frame : Frame) → IsPlannable frame → (height frame.active ≤ 8192) × (width frame.active ≤ 8192)
small_area frame is =
    let part : IsPartOf frame.shape (after_list1 frame) =
    left_part 0 frame.list1 frame.shape frame.shape (all_run 1 frame.list1 is.list1) is.fit1
    (record { some_rows = is.shape.some_rows; rows = omega arith; some_cols = is.shape.some_cols; cols = omega arith })
    in (
      omega (arith, is.active.bottom, part.rows, is.shape.rows),
      omega (arith, is.active.right, part.cols, is.shape.cols),
    )

-- the stages from the second crop on, from the one behind list 2 on, and from the first crop on
takes_last : (frame : Frame) (settings : Settings) (matrix : List ℤ) → IsPlannable frame
    → TakeInTurn takes_of shaped_of (last_stages frame settings matrix) (coloured (after_list2 frame))
takes_last frame settings matrix is =
    listed_then 3 0 frame.list3 (coloured (after_list2 frame)) (behind_list3 frame settings matrix) is.list3
    (λ low. absurd (omega (arith, low))) is.fit3
    (record { some = is.crop_some; inside = is.crop }, (colours, (colours, (colours, tt))))
  where
    colours : (left_after frame.list3 (coloured (after_list2 frame))).planes ≡ 3
    colours = planes_left frame.list3 (coloured (after_list2 frame))

takes_middle : (frame : Frame) (settings : Settings) (matrix : List ℤ) → IsPlannable frame
    → TakeInTurn takes_of shaped_of (middle_stages frame settings matrix) (area_shape frame.active)
takes_middle frame settings matrix is =
    listed_then 2 0 frame.list2 (area_shape frame.active) (demosaic_stage frame settings ∷ last_stages frame settings
    matrix) is.list2 (λ low. refl) is.fit2 (
      record { planes = planes_left frame.list2 (area_shape frame.active); rows = is.rows; cols = is.cols },
      takes_last frame settings matrix is,
    )

-- each stage of a frame takes what the one before makes
takes_all : (frame : Frame) (settings : Settings) (matrix : List ℤ) → IsPlannable frame
    → TakeInTurn takes_of shaped_of (stages_with frame settings matrix) frame.shape
unfolding stages_with in_order
takes_all frame settings matrix is =
    let single : (after_list1 frame).planes ≡ 1 = planes_left frame.list1 frame.shape ∙ is.shape.planes in
    let middle : TakeInTurn takes_of shaped_of (middle_stages frame settings matrix)
    (cropped_shape frame.active (after_list1 frame)) =
    subst (λ (n : ℕ). TakeInTurn takes_of shaped_of (middle_stages frame settings matrix)
    (record { rows = height frame.active; cols = width frame.active; planes = n })) (sym single)
    (takes_middle frame settings matrix is) in
    listed_then 1 0 frame.list1 frame.shape (stage.Crop (record { rect = frame.active }) ∷ linear_stage frame settings ∷
    middle_stages frame settings matrix) is.list1 (λ low. is.shape.planes) is.fit1 (
      record { some = is.active_some; inside = is.active },
      (
        record { planes = single; rows = refl; cols = refl },
        middle,
      ),
    )

-- so do the stages that are planned
pub takes_planned : (frame : Frame) (settings : Settings) (stages : List DevStage) → IsPlannable frame
    → planned frame settings ≡ Ok stages → TakeInTurn takes_of shaped_of stages frame.shape
takes_planned frame settings stages is are =
    let h = has frame settings stages are in
    subst (λ (xs : List DevStage). TakeInTurn takes_of shaped_of xs frame.shape) h.are
    (takes_all frame settings h.matrix is)

-- the order of integers, as a test
pub is_below : (a b : ℤ) → a <ℤ b → int_lt a b ≡ true
is_below a b h = by (int_lt a b) refl
  where
    by : (t : Bool) → int_lt a b ≡ t → t ≡ true
    by true e = refl
    by false e = absurd (omega (arith, ints, h))

pub is_not_below : (a b : ℤ) → b ≤ℤ a → int_lt a b ≡ false
is_not_below a b h = by (int_lt a b) refl
  where
    by : (t : Bool) → int_lt a b ≡ t → t ≡ false
    by true e = absurd (omega (arith, ints, h))
    by false e = refl

-- linear values, by the parameters that were made, and their refusal
pub linear_so : (frame : Frame) (settings : Settings) (linear : Parameters)
    → linear ≡ parameters (levels_under frame settings) (height frame.active) (width frame.active)
    → pos 0 <ℤ span_under frame settings → linear_or frame settings ≡ Ok (stage.Linearise linear)
linear_so frame settings linear is above =
    cond-true _ _ _ (is_below (pos 0) (span_under frame settings) above)
    ∙ ap (λ (made : Parameters). Ok (stage.Linearise made)) (sym is)

pub linear_low : (frame : Frame) (settings : Settings) → span_under frame settings ≤ℤ pos 0
    → linear_or frame settings ≡ Err fault.Levels
linear_low frame settings low = cond-false _ _ _ (is_not_below (pos 0) (span_under frame settings) low)

-- the refusal by the fault of the parameters
pub linear_refused : (frame : Frame) (settings : Settings) (refusal : LineariseFault)
    → ((refusal ≡ linearise.Levels) ↔ (span_under frame settings ≤ℤ pos 0)) → linear_fault refusal ≢ fault.Memory
    → linear_or frame settings ≡ Err (linear_fault refusal)
linear_refused frame settings linearise.Levels is other = linear_low frame settings (is.0 refl)
linear_refused frame settings linearise.Memory is other = absurd (other refl)

-- the parts of the stages, one behind the other
pub in_parts : (frame : Frame) (linear demosaic balance matrix tone : DevStage)
    → ((listed frame.list1 ++ (stage.Crop (record { rect = frame.active }) ∷ linear ∷ listed frame.list2))
    ++ (demosaic ∷ (listed frame.list3 ++ (stage.Crop (record { rect = frame.crop }) ∷ []))))
    ++ (balance ∷ matrix ∷ tone ∷ [])
    ≡ in_order frame linear demosaic balance matrix tone
unfolding in_order
in_parts frame linear demosaic balance matrix tone = simp append_assoc refl
