-- The raw plane of a frame, and what is developed of it.
use Rattle.std.proofs.Common.{◌≡◌, ℕ, ◌+◌, ◌≤◌, ℤ, length, length-append, subst, arith, pos, int_lt, cond, true, false}
use Rattle.std.proofs.Common.{List, [], ◌∷◌, ◌++◌, Option, None, Some, Ok, Err, refl, sym, ◌∙◌, ap}
use Rattle.std.specs.Prelude.{unwrap_or}
use Rattle.plane_view.specs.Plane.{Plane}
use Rattle.plane_view.specs.Shapes.{IsShape}
use Rattle.plane_view.specs.declared.Shape.{Shape}
use Rattle.stage_core.specs.Planes.{IsPlane}
use Rattle.stage_core.specs.Stages.{shape_of}
use Rattle.stage_chain.specs.Chains.{TakeInTurn, whole_of}
use Rattle.dng_tags.specs.Facts.{IsFrame}
use Rattle.dng_tags.specs.Raw.{coding_of, raw, segments_plane}
use Rattle.dng_tags.specs.declared.record.Frame.{Frame}
use Rattle.dev_stages.specs.Members.{apply_of, shaped_of, takes_of}
use Rattle.opcode_list.specs.declared.opcode.Opcode.{Opcode}
use Rattle.opcode_list.specs.declared.opcode.Opcode.TheVariants.{FixConstant, FixList, Map, Skipped, Trim}
use Rattle.dev_stages.specs.Listed.{listed}
use Rattle.dev_stages.specs.Plans.{chosen_matrix, in_order, planned, planned_with, span_under, stages_with}
use Rattle.dev_stages.specs.declared.stage.DevStage.{DevStage}
use Rattle.dev_stages.specs.declared.stage.DevStage.TheVariants as stage
use Rattle.colour_matrix.specs.Matrices.{camera_matrix}
use Rattle.dev_settings.specs.declared.settings.Settings.{Settings}
use Rattle.dev_stages.specs.declared.fault.PlanFault.TheVariants as fault
use Rattle.dev_stages.proofs.PlanLemmas.{takes_planned}
use Rattle.region_session.specs.Stacks.{last_shape}
use Rattle.developer.specs.Develop.{IsInForce, develop, stages_under}
use Rattle.developer.specs.inner.Developed.{Develops}
use Rattle.developer.specs.Replies.{developed}
use Rattle.developer.specs.Sessions.{InForce}

-- the shape of a raw plane
pub shape_of_raw : (bytes : List ℕ) (frame : Frame) → IsFrame frame bytes → shape_of (raw bytes frame) ≡ frame.shape
unfolding segments_plane
shape_of_raw bytes frame is = λ i. record {
  rows = frame.shape.rows;
  cols = frame.shape.cols;
  planes = sym is.plannable.shape.planes i;
}

-- stages before others
whole_on : (first rest : List DevStage) (P : Plane) → whole_of apply_of (first ++ rest) P ≡ whole_of apply_of rest
    (whole_of apply_of first P)
whole_on [] rest P = refl
whole_on (stage ∷ first) rest P = whole_on first rest (apply_of stage P)

-- the opcodes of a list leave the number of planes
planes_left : (opcodes : List Opcode) (P : Plane) → (whole_of apply_of (listed opcodes) P).planes ≡ P.planes
unfolding listed
planes_left [] P = refl
planes_left (FixConstant constant phase ∷ more) P =
    planes_left more (apply_of (stage.FixConstant (record { constant = constant; phase = phase })) P)
planes_left (FixList phase points rects ∷ more) P =
    planes_left more (apply_of (stage.FixList (record { phase = phase; points = points; rects = rects })) P)
planes_left (Trim rect ∷ more) P = planes_left more (apply_of (stage.Crop (record { rect = rect })) P)
planes_left (Map rect plane planes row_pitch col_pitch table ∷ more) P =
    planes_left more (apply_of
    (stage.Map (record {
      rect = rect;
      plane = plane;
      planes = planes;
      row_pitch = row_pitch;
      col_pitch = col_pitch;
      table = table;
    })) P)
planes_left (Skipped id ∷ more) P = planes_left more P

-- stages behind a list, one of which makes three planes before another list
three_after : (opcodes : List Opcode) (rest : List DevStage) (P : Plane)
    → ((Q : Plane) → Q.planes ≡ 3 → (whole_of apply_of rest Q).planes ≡ 3) → P.planes ≡ 3
    → (whole_of apply_of (listed opcodes ++ rest) P).planes ≡ 3
three_after opcodes rest P keep three =
    ap (λ (Q : Plane). Q.planes) (whole_on (listed opcodes) rest P)
    ∙ keep (whole_of apply_of (listed opcodes) P) (planes_left opcodes P ∙ three)

-- the stages by a matrix leave three planes
three_with : (frame : Frame) (settings : Settings) (matrix : List ℤ) (P : Plane)
    → (whole_of apply_of (stages_with frame settings matrix) P).planes ≡ 3
unfolding stages_with in_order
three_with frame settings matrix P =
    ap (λ (Q : Plane). Q.planes) (whole_on (listed frame.list1) _ P)
    ∙ (ap (λ (Q : Plane). Q.planes) (whole_on (listed frame.list2) _ _)
    ∙ three_after frame.list3 _ _ (λ Q three. three) refl)

-- stages that are planned, by the matrix that is chosen
planned_by : (frame : Frame) (settings : Settings) (matrix : Option (List ℤ)) (stages : List DevStage)
    → planned_with frame settings matrix ≡ Ok stages
    → stages ≡ stages_with frame settings (unwrap_or matrix camera_matrix)
planned_by frame settings None stages is = cc
planned_by frame settings (Some matrix) stages is =
    (elim (int_lt (pos 0) (span_under frame settings)) as (λ above. cond above (Ok (stages_with frame settings matrix))
    (Err fault.Levels) ≡ Ok stages → stages ≡ stages_with frame settings matrix) [
      | true ↦ λ is. cc
      | false ↦ λ is. cc
    ]) is

-- they are those of the development
pub planned_stages : (frame : Frame) (settings : Settings) (stages : List DevStage) → planned frame settings ≡ Ok stages
    → stages ≡ stages_under frame settings
planned_stages frame settings stages is = planned_by frame settings (chosen_matrix frame.colour settings.matrix) stages
    is

-- they leave three planes
pub three_planes : (frame : Frame) (settings : Settings) (stages : List DevStage) (P : Plane)
    → planned frame settings ≡ Ok stages → (whole_of apply_of stages P).planes ≡ 3
three_planes frame settings stages P is =
    ap (λ (xs : List DevStage). (whole_of apply_of xs P).planes) (planned_stages frame settings stages is)
    ∙ three_with frame settings (unwrap_or (chosen_matrix frame.colour settings.matrix) camera_matrix) P

-- and make the development
pub planned_develops : (raw : Plane) (frame : Frame) (settings : Settings) (stages : List DevStage)
    → planned frame settings ≡ Ok stages → whole_of apply_of stages raw ≡ develop raw frame settings
unfolding develop
planned_develops raw frame settings stages is = ap (λ (xs : List DevStage). whole_of apply_of xs raw)
    (planned_stages frame settings stages is)

-- the stages in force make it
pub in_force_develops : (now : InForce) → IsInForce now → whole_of apply_of now.session.stages now.session.plane
    ≡ developed now
in_force_develops now is = planned_develops now.session.plane now.frame now.settings now.session.stages is.stages

-- and leave three planes
pub in_force_planes : (now : InForce) → IsInForce now → (whole_of apply_of now.session.stages now.session.plane).planes
    ≡ 3
in_force_planes now is = three_planes now.frame now.settings now.session.stages now.session.plane is.stages

-- the stages of a plan take one another over the raw plane
pub plan_takes : (bytes : List ℕ) (frame : Frame) (settings : Settings) (stages : List DevStage) → IsFrame frame bytes
    → planned frame settings ≡ Ok stages
    → TakeInTurn takes_of shaped_of stages (shape_of (raw bytes frame))
plan_takes bytes frame settings stages is are =
    subst (TakeInTurn takes_of shaped_of stages) (sym (shape_of_raw bytes frame is))
    (takes_planned frame settings stages is.plannable are)

-- stages whose last plane has three planes make a developed one
pub makes_developed : (P : Plane) (stages : List DevStage) (last : Shape) → IsShape last
    → IsPlane (whole_of apply_of stages P) last
    → last ≡ last_shape shaped_of (shape_of P) stages → (whole_of apply_of stages P).planes ≡ 3 → Develops P stages
makes_developed P stages last limits is same three =
    let shape : shape_of (whole_of apply_of stages P) ≡ last =
    λ i. record { rows = is.shape.rows i; cols = is.shape.cols i; planes = is.shape.planes i } in
    record {
      shape = shape ∙ same;
      developed = record {
        rows = omega (arith, is.shape.rows, limits.rows);
        cols = omega (arith, is.shape.cols, limits.cols);
        planes = three;
        whole = is.whole;
      };
    }

-- few opcodes have few stages
few_listed : (opcodes : List Opcode) → length (listed opcodes) ≤ length opcodes
unfolding listed
few_listed [] = omega arith
few_listed (FixConstant constant phase ∷ more) = omega (arith, few_listed more)
few_listed (FixList phase points rects ∷ more) = omega (arith, few_listed more)
few_listed (Trim rect ∷ more) = omega (arith, few_listed more)
few_listed (Map rect plane planes row_pitch col_pitch table ∷ more) = omega (arith, few_listed more)
few_listed (Skipped id ∷ more) = omega (arith, few_listed more)

-- how long three lists with seven more stages are
seven_more : (one two three : List DevStage) (p q r s t u v : DevStage)
    → length (one ++ (p ∷ q ∷ (two ++ (r ∷ (three ++ (s ∷ t ∷ u ∷ v ∷ [])))))) ≡ length one + length two + length three
    + 7
seven_more one two three p q r s t u v =
    omega (
      arith,
      length-append one (p ∷ q ∷ (two ++ (r ∷ (three ++ (s ∷ t ∷ u ∷ v ∷ []))))),
      length-append two (r ∷ (three ++ (s ∷ t ∷ u ∷ v ∷ []))),
      length-append three (s ∷ t ∷ u ∷ v ∷ []),
    )

-- how many stages a development has
stage_count : (frame : Frame) (settings : Settings) (matrix : List ℤ) → length (stages_with frame settings matrix)
    ≡ length (listed frame.list1) + length (listed frame.list2) + length (listed frame.list3) + 7
unfolding stages_with in_order
stage_count frame settings matrix = seven_more (listed frame.list1) (listed frame.list2) (listed frame.list3) _ _ _ _ _
    _ _

-- 7 to 55
pub few_stages : (bytes : List ℕ) (frame : Frame) (settings : Settings) (stages : List DevStage) → IsFrame frame bytes
    → planned frame settings ≡ Ok stages → (1 ≤ length stages) × (length stages ≤ 64)
few_stages bytes frame settings stages is are =
    let count = ap length (planned_stages frame settings stages are)
    ∙ stage_count frame settings (unwrap_or (chosen_matrix frame.colour settings.matrix) camera_matrix) in (
      omega (arith, count),
      omega (
        arith,
        count,
        few_listed frame.list1,
        few_listed frame.list2,
        few_listed frame.list3,
        is.plannable.few1,
        is.plannable.few2,
        is.plannable.few3,
      ),
    )
