-- What a change of settings does to the stages of a frame.
use Rattle.std.proofs.Common.{◌≡◌, ℕ, ◌+◌, ◌-◌, ◌≤◌, Bool, true, false, if◌then◌else◌, ℤ, pos, int_lt, List, [], ◌∷◌}
use Rattle.std.proofs.Common.{◌++◌, length, length-append, get_or, slice_get, slice_set, Option, None, Some, Result, Ok}
use Rattle.std.proofs.Common.{Err, refl, sym, ◌∙◌, ap, subst, arith}
use Rattle.std.proofs.lemmas.Bool.{cond-true}
use Rattle.std.proofs.lemmas.List.{get_or-append_right, set-append_right}
use Rattle.std.proofs.lemmas.Option.{get_or_from_slice_get}
use Rattle.dng_tags.specs.declared.record.Frame.{Frame}
use Rattle.dev_settings.specs.Settings.{changed}
use Rattle.dev_settings.specs.declared.settings.Change.{Change}
use Rattle.dev_settings.specs.declared.settings.Change.TheVariants as key
use Rattle.dev_settings.specs.declared.settings.Settings.{Settings}
use Rattle.dev_stages.specs.Changes.{AreLike, Becomes, Replaces, balance_number, demosaic_number}
use Rattle.dev_stages.specs.Changes.{linear_number, linear_or, matrix_or, number_of, replaced, touched}
use Rattle.dev_stages.specs.Listed.{listed}
use Rattle.dev_stages.specs.Plans.{balance_stage, chosen_matrix, demosaic_stage, in_order, linear_stage, planned}
use Rattle.dev_stages.specs.Plans.{planned_with, span_under, stages_with, tone_stage}
use Rattle.dev_stages.specs.declared.fault.PlanFault.{PlanFault}
use Rattle.dev_stages.specs.declared.fault.PlanFault.TheVariants as fault
use Rattle.dev_stages.specs.declared.stage.DevStage.{DevStage}
use Rattle.dev_stages.specs.declared.stage.DevStage.TheVariants.{Crop, Matrix}

-- the fault of an answer, and its value, for answers that have one
fault_is : {X : Type 0} (one other : PlanFault) → ◌≡◌ {A = Result X PlanFault} (Err one) (Err other) → one ≡ other
fault_is one other e = cc

ok_is : {X : Type 0} (one other : X) → ◌≡◌ {A = Result X PlanFault} (Ok one) (Ok other) → one ≡ other
ok_is one other e = cc

-- stages in their order, by the matrix and the linear values that there are
abbrev with_these : Frame → Settings → (matrix linear : DevStage) → List DevStage
with_these frame settings matrix linear =
    in_order frame linear (demosaic_stage frame settings) (balance_stage frame settings) matrix (tone_stage settings)

pub planned_ok : (frame : Frame) (settings : Settings) (matrix linear : DevStage)
    → matrix_or (chosen_matrix frame.colour settings.matrix) ≡ Ok matrix → linear_or frame settings ≡ Ok linear
    → planned frame settings ≡ Ok (with_these frame settings matrix linear)
unfolding stages_with
planned_ok frame settings matrix linear = by_matrix (chosen_matrix frame.colour settings.matrix)
  where
    by_span : (entries : List ℤ) (above : Bool) → ◌≡◌ {A = Result DevStage PlanFault} (Ok (Matrix entries)) (Ok matrix)
        → (if above then Ok (linear_stage frame settings) else Err fault.Levels) ≡ Ok linear
        → (if above then Ok (stages_with frame settings entries) else Err fault.Levels)
        ≡ Ok (with_these frame settings matrix linear)
    by_span entries true m l =
        λ i. Ok (with_these frame settings (ok_is (Matrix entries) matrix m i)
        (ok_is (linear_stage frame settings) linear l i))
    by_span entries false m l = absurd (cc)

    by_matrix : (chosen : Option (List ℤ)) → matrix_or chosen ≡ Ok matrix → linear_or frame settings ≡ Ok linear
        → planned_with frame settings chosen ≡ Ok (with_these frame settings matrix linear)
    by_matrix None m l = absurd (cc)
    by_matrix (Some entries) m l = by_span entries (int_lt (pos 0) (span_under frame settings)) m l

pub planned_low : (frame : Frame) (settings : Settings) (matrix : DevStage) (refusal : PlanFault)
    → matrix_or (chosen_matrix frame.colour settings.matrix) ≡ Ok matrix → linear_or frame settings ≡ Err refusal
    → planned frame settings ≡ Err refusal
planned_low frame settings matrix refusal = by_matrix (chosen_matrix frame.colour settings.matrix)
  where
    by_span : (entries : List ℤ) (above : Bool) → (if above then Ok (linear_stage frame settings) else Err fault.Levels)
        ≡ Err refusal
        → (if above then Ok (stages_with frame settings entries) else Err fault.Levels) ≡ Err refusal
    by_span entries true l = absurd (cc)
    by_span entries false l = ap Err (fault_is fault.Levels refusal l)

    by_matrix : (chosen : Option (List ℤ)) → matrix_or chosen ≡ Ok matrix → linear_or frame settings ≡ Err refusal
        → planned_with frame settings chosen ≡ Err refusal
    by_matrix None m l = absurd (cc)
    by_matrix (Some entries) m l = by_span entries (int_lt (pos 0) (span_under frame settings)) l

-- what holds of settings under which a frame has stages
pub record Has (frame : Frame) (settings : Settings) (stages : List DevStage) : Type 0 where
  pub matrix : List ℤ
  pub chosen : chosen_matrix frame.colour settings.matrix ≡ Some matrix
  pub above : int_lt (pos 0) (span_under frame settings) ≡ true
  pub are : stages_with frame settings matrix ≡ stages

pub has : (frame : Frame) (settings : Settings) (stages : List DevStage) → planned frame settings ≡ Ok stages
    → Has frame settings stages
has frame settings stages = by_matrix (chosen_matrix frame.colour settings.matrix) refl
  where
    by_span : (matrix : List ℤ) → chosen_matrix frame.colour settings.matrix ≡ Some matrix → (above : Bool)
        → int_lt (pos 0) (span_under frame settings) ≡ above
        → (if above then Ok (stages_with frame settings matrix) else Err fault.Levels) ≡ Ok stages
        → Has frame settings stages
    by_span matrix chosen true above e = record {
      matrix = matrix;
      chosen = chosen;
      above = above;
      are = ok_is (stages_with frame settings matrix) stages e;
    }
    by_span matrix chosen false above e = absurd (cc)

    by_matrix : (o : Option (List ℤ)) → chosen_matrix frame.colour settings.matrix ≡ o → planned_with frame settings o
        ≡ Ok stages → Has frame settings stages
    by_matrix None chosen e = absurd (cc)
    by_matrix (Some matrix) chosen e = by_span matrix chosen (int_lt (pos 0) (span_under frame settings)) refl e

-- an item behind others is replaced
past : (xs ys zs : List DevStage) (i j : ℕ) (stage : DevStage) → i ≡ length xs + j → slice_set ys j stage ≡ zs
    → slice_set (xs ++ ys) i stage ≡ xs ++ zs
past xs ys zs i j stage at here =
    set-append_right xs ys (length xs) i stage refl (omega (arith, at))
    ∙ ap (λ (k : ℕ). xs ++ slice_set ys k stage) (omega (arith, at))
    ∙ ap (λ (rest : List DevStage). xs ++ rest) here

-- the stages between lists 1 and 2
abbrev first_two : Frame → DevStage → List DevStage
first_two frame linear = Crop (record { rect = frame.active }) ∷ linear ∷ []

linear_on : (frame : Frame) (linear demosaic balance matrix tone new : DevStage)
    → replaced (linear_number frame) new (in_order frame linear demosaic balance matrix tone)
    ≡ in_order frame new demosaic balance matrix tone
unfolding in_order
linear_on frame linear demosaic balance matrix tone new =
    past (listed frame.list1) _ _ (linear_number frame - 1) 1 new (omega arith) refl

demosaic_on : (frame : Frame) (linear demosaic balance matrix tone new : DevStage)
    → replaced (demosaic_number frame) new (in_order frame linear demosaic balance matrix tone)
    ≡ in_order frame linear new balance matrix tone
unfolding in_order
demosaic_on frame linear demosaic balance matrix tone new =
    past (listed frame.list1) _ _ (demosaic_number frame - 1) (length (listed frame.list2) + 2) new (omega arith)
    (past (first_two frame linear) _ _ (length (listed frame.list2) + 2) (length (listed frame.list2)) new (omega arith)
    (past (listed frame.list2) _ _ (length (listed frame.list2)) 0 new (omega arith) refl))

-- a stage behind list 3
last_on : (frame : Frame) (linear demosaic : DevStage) (ys zs : List DevStage) (i j : ℕ) (new : DevStage)
    → i ≡ length (listed frame.list1) + length (listed frame.list2) + length (listed frame.list3) + 3 + j
    → slice_set ys j new ≡ zs
    → slice_set (listed frame.list1
    ++ (first_two frame linear ++ (listed frame.list2 ++ ((demosaic ∷ []) ++ (listed frame.list3 ++ ys))))) i new
    ≡ listed frame.list1 ++ (first_two frame linear
    ++ (listed frame.list2 ++ ((demosaic ∷ []) ++ (listed frame.list3 ++ zs))))
last_on frame linear demosaic ys zs i j new at here =
    let two = length (listed frame.list2) in
    let three = length (listed frame.list3) in
    past (listed frame.list1) _ _ i (two + three + 3 + j) new (omega (arith, at))
    (past (first_two frame linear) _ _ (two + three + 3 + j) (two + three + 1 + j) new (omega arith)
    (past (listed frame.list2) _ _ (two + three + 1 + j) (three + 1 + j) new (omega arith)
    (past (demosaic ∷ []) _ _ (three + 1 + j) (three + j) new (omega arith)
    (past (listed frame.list3) ys zs (three + j) j new (omega arith) here))))

-- the stages behind list 3
abbrev pub last_four : Frame → (balance matrix tone : DevStage) → List DevStage
last_four frame balance matrix tone = Crop (record { rect = frame.crop }) ∷ balance ∷ matrix ∷ tone ∷ []

balance_on : (frame : Frame) (linear demosaic balance matrix tone new : DevStage)
    → replaced (balance_number frame) new (in_order frame linear demosaic balance matrix tone)
    ≡ in_order frame linear demosaic new matrix tone
unfolding in_order
balance_on frame linear demosaic balance matrix tone new =
    last_on frame linear demosaic (last_four frame balance matrix tone) (last_four frame new matrix tone)
    (balance_number frame - 1) 1 new (omega arith) refl

matrix_on : (frame : Frame) (linear demosaic balance matrix tone new : DevStage)
    → replaced (balance_number frame + 1) new (in_order frame linear demosaic balance matrix tone)
    ≡ in_order frame linear demosaic balance new tone
unfolding in_order
matrix_on frame linear demosaic balance matrix tone new =
    last_on frame linear demosaic (last_four frame balance matrix tone) (last_four frame balance new tone)
    (balance_number frame + 1 - 1) 2 new (omega arith) refl

tone_on : (frame : Frame) (linear demosaic balance matrix tone new : DevStage)
    → replaced (balance_number frame + 2) new (in_order frame linear demosaic balance matrix tone)
    ≡ in_order frame linear demosaic balance matrix new
unfolding in_order
tone_on frame linear demosaic balance matrix tone new =
    last_on frame linear demosaic (last_four frame balance matrix tone) (last_four frame balance matrix new)
    (balance_number frame + 2 - 1) 3 new (omega arith) refl

-- how many stages there are
how_many : (frame : Frame) (linear demosaic balance matrix tone : DevStage)
    → length (in_order frame linear demosaic balance matrix tone)
    ≡ length (listed frame.list1) + length (listed frame.list2) + length (listed frame.list3) + 7
unfolding in_order
how_many frame linear demosaic balance matrix tone =
    let one = length-append (listed frame.list1) (first_two frame linear
    ++ (listed frame.list2 ++ ((demosaic ∷ []) ++ (listed frame.list3 ++ last_four frame balance matrix tone)))) in
    let two = length-append (listed frame.list2) ((demosaic ∷ [])
    ++ (listed frame.list3 ++ last_four frame balance matrix tone)) in
    let three = length-append (listed frame.list3) (last_four frame balance matrix tone) in
    omega (arith, one, two, three)

-- the linear values of settings under which there are stages
linear_has : (frame : Frame) (settings : Settings) (stages : List DevStage) → Has frame settings stages
    → linear_or frame settings ≡ Ok (linear_stage frame settings)
linear_has frame settings stages h = cond-true _ _ _ h.above

abbrev AreReplaced : Frame → Change → Settings → List DevStage → DevStage → Type 0
AreReplaced frame change before stages stage =
    planned frame (changed change before) ≡ Ok (replaced (number_of frame change) stage stages)

-- a change of the levels
levels_replaced : (frame : Frame) (before after : Settings) (stages : List DevStage) (stage : DevStage)
    → Has frame before stages → linear_or frame after ≡ Ok stage
    → demosaic_stage frame after ≡ demosaic_stage frame before → balance_stage frame after ≡ balance_stage frame before
    → tone_stage after ≡ tone_stage before → after.matrix ≡ before.matrix
    → planned frame after ≡ Ok (replaced (linear_number frame) stage stages)
unfolding stages_with
levels_replaced frame before after stages stage h t same_demosaic same_balance same_tone same_matrix =
    planned_ok frame after (Matrix h.matrix) stage (ap (λ choice. matrix_or (chosen_matrix frame.colour choice))
    same_matrix ∙ ap matrix_or h.chosen) t
    ∙ (λ i. Ok (in_order frame stage (same_demosaic i) (same_balance i) (Matrix h.matrix) (same_tone i)))
    ∙ ap Ok (sym (linear_on frame (linear_stage frame before) (demosaic_stage frame before) (balance_stage frame before)
    (Matrix h.matrix) (tone_stage before) stage))
    ∙ ap (λ xs. Ok (replaced (linear_number frame) stage xs)) h.are

pub are_replaced : (frame : Frame) (change : Change) (before : Settings) (stages : List DevStage) (stage : DevStage)
    → Has frame before stages → touched frame (changed change before) change ≡ Ok stage
    → AreReplaced frame change before stages stage
unfolding stages_with
are_replaced frame (key.Black black) before stages stage h t =
    levels_replaced frame before (changed (key.Black black) before) stages stage h t refl refl refl refl
are_replaced frame (key.White white) before stages stage h t =
    levels_replaced frame before (changed (key.White white) before) stages stage h t refl refl refl refl
are_replaced frame (key.Demosaic kind) before stages stage h t =
    let new = demosaic_stage frame (changed (key.Demosaic kind) before) in
    planned_ok frame (changed (key.Demosaic kind) before) (Matrix h.matrix) (linear_stage frame before)
    (ap matrix_or h.chosen) (linear_has frame before stages h)
    ∙ ap Ok (sym (demosaic_on frame (linear_stage frame before) (demosaic_stage frame before)
    (balance_stage frame before) (Matrix h.matrix) (tone_stage before) new))
    ∙ (λ i. Ok (replaced (demosaic_number frame) (ok_is new stage t i) (h.are i)))
are_replaced frame (key.Wb gains) before stages stage h t =
    let new = balance_stage frame (changed (key.Wb gains) before) in
    planned_ok frame (changed (key.Wb gains) before) (Matrix h.matrix) (linear_stage frame before)
    (ap matrix_or h.chosen) (linear_has frame before stages h)
    ∙ ap Ok (sym (balance_on frame (linear_stage frame before) (demosaic_stage frame before)
    (balance_stage frame before) (Matrix h.matrix) (tone_stage before) new))
    ∙ (λ i. Ok (replaced (balance_number frame) (ok_is new stage t i) (h.are i)))
are_replaced frame (key.Exposure exposure) before stages stage h t =
    let new = balance_stage frame (changed (key.Exposure exposure) before) in
    planned_ok frame (changed (key.Exposure exposure) before) (Matrix h.matrix) (linear_stage frame before)
    (ap matrix_or h.chosen) (linear_has frame before stages h)
    ∙ ap Ok (sym (balance_on frame (linear_stage frame before) (demosaic_stage frame before)
    (balance_stage frame before) (Matrix h.matrix) (tone_stage before) new))
    ∙ (λ i. Ok (replaced (balance_number frame) (ok_is new stage t i) (h.are i)))
are_replaced frame (key.Matrix choice) before stages stage h t =
    planned_ok frame (changed (key.Matrix choice) before) stage (linear_stage frame before) t
    (linear_has frame before stages h)
    ∙ ap Ok (sym (matrix_on frame (linear_stage frame before) (demosaic_stage frame before) (balance_stage frame before)
    (Matrix h.matrix) (tone_stage before) stage))
    ∙ ap (λ xs. Ok (replaced (balance_number frame + 1) stage xs)) h.are
are_replaced frame (key.Tone curve) before stages stage h t =
    let new = tone_stage (changed (key.Tone curve) before) in
    planned_ok frame (changed (key.Tone curve) before) (Matrix h.matrix) (linear_stage frame before)
    (ap matrix_or h.chosen) (linear_has frame before stages h)
    ∙ ap Ok (sym (tone_on frame (linear_stage frame before) (demosaic_stage frame before) (balance_stage frame before)
    (Matrix h.matrix) (tone_stage before) new))
    ∙ (λ i. Ok (replaced (balance_number frame + 2) (ok_is new stage t i) (h.are i)))

-- the number of a change is that of a stage
numbered : (frame : Frame) (change : Change) (before : Settings) (stages : List DevStage) → Has frame before stages
    → (1 ≤ number_of frame change) × (number_of frame change ≤ length stages)
unfolding stages_with
numbered frame change before stages h = by change
  where
    count : length stages ≡ length (listed frame.list1) + length (listed frame.list2) + length (listed frame.list3) + 7
    count = ap length (sym h.are) ∙ how_many frame (linear_stage frame before) (demosaic_stage frame before)
        (balance_stage frame before) (Matrix h.matrix) (tone_stage before)

    by : (change : Change) → (1 ≤ number_of frame change) × (number_of frame change ≤ length stages)
    by (key.Black black) = (omega arith, omega (arith, count))
    by (key.White white) = (omega arith, omega (arith, count))
    by (key.Demosaic kind) = (omega arith, omega (arith, count))
    by (key.Wb gains) = (omega arith, omega (arith, count))
    by (key.Exposure exposure) = (omega arith, omega (arith, count))
    by (key.Matrix choice) = (omega arith, omega (arith, count))
    by (key.Tone curve) = (omega arith, omega (arith, count))

-- an item behind others is found
found_past : (xs ys : List DevStage) (i j : ℕ) (other found : DevStage) → i ≡ length xs + j → get_or ys j other ≡ found
    → get_or (xs ++ ys) i other ≡ found
found_past xs ys i j other found at here =
    get_or-append_right xs ys (length xs) i other refl (omega (arith, at))
    ∙ ap (λ (k : ℕ). get_or ys k other) (omega (arith, at))
    ∙ here

linear_at : (frame : Frame) (linear demosaic balance matrix tone other : DevStage)
    → get_or (in_order frame linear demosaic balance matrix tone) (linear_number frame - 1) other ≡ linear
unfolding in_order
linear_at frame linear demosaic balance matrix tone other =
    found_past (listed frame.list1) _ (linear_number frame - 1) 1 other linear (omega arith) refl

demosaic_at : (frame : Frame) (linear demosaic balance matrix tone other : DevStage)
    → get_or (in_order frame linear demosaic balance matrix tone) (demosaic_number frame - 1) other ≡ demosaic
unfolding in_order
demosaic_at frame linear demosaic balance matrix tone other =
    found_past (listed frame.list1) _ (demosaic_number frame - 1) (length (listed frame.list2) + 2) other demosaic
    (omega arith)
    (found_past (first_two frame linear) _ (length (listed frame.list2) + 2) (length (listed frame.list2)) other
    demosaic (omega arith)
    (found_past (listed frame.list2) _ (length (listed frame.list2)) 0 other demosaic (omega arith) refl))

last_at : (frame : Frame) (linear demosaic balance matrix tone other found : DevStage) (i j : ℕ)
    → i ≡ length (listed frame.list1) + length (listed frame.list2) + length (listed frame.list3) + 3 + j
    → get_or (last_four frame balance matrix tone) j other ≡ found
    → get_or (in_order frame linear demosaic balance matrix tone) i other ≡ found
unfolding in_order
last_at frame linear demosaic balance matrix tone other found i j at here =
    let two = length (listed frame.list2) in
    let three = length (listed frame.list3) in
    found_past (listed frame.list1) _ i (two + three + 3 + j) other found (omega (arith, at))
    (found_past (first_two frame linear) _ (two + three + 3 + j) (two + three + 1 + j) other found (omega arith)
    (found_past (listed frame.list2) _ (two + three + 1 + j) (three + 1 + j) other found (omega arith)
    (found_past (demosaic ∷ []) _ (three + 1 + j) (three + j) other found (omega arith)
    (found_past (listed frame.list3) (last_four frame balance matrix tone) (three + j) j other found (omega arith)
    here))))

-- stages of the same kind
like_linear : (frame : Frame) (before after : Settings) → AreLike (linear_stage frame before) (linear_stage frame after)
like_linear frame before after =
    record {
      takes = λ input taken. record { planes = taken.planes; rows = taken.rows; cols = taken.cols };
      shapes = λ input. refl;
    }

like_demosaic : (frame : Frame) (before after : Settings)
    → AreLike (demosaic_stage frame before) (demosaic_stage frame after)
like_demosaic frame before after = record { takes = λ input taken. taken; shapes = λ input. refl }

like_balance : (frame : Frame) (before after : Settings)
    → AreLike (balance_stage frame before) (balance_stage frame after)
like_balance frame before after = record { takes = λ input taken. taken; shapes = λ input. refl }

like_tone : (before after : Settings) → AreLike (tone_stage before) (tone_stage after)
like_tone before after = record { takes = λ input taken. taken; shapes = λ input. refl }

like_matrix : (before : List ℤ) (chosen : Option (List ℤ)) (stage : DevStage) → matrix_or chosen ≡ Ok stage
    → AreLike (Matrix before) stage
like_matrix before None stage t = absurd (cc)
like_matrix before (Some after) stage t =
    subst (λ (new : DevStage). AreLike (Matrix before) new) (ok_is (Matrix after) stage t)
    (record { takes = λ input taken. taken; shapes = λ input. refl })

linear_made : (frame : Frame) (settings : Settings) (stage : DevStage) → linear_or frame settings ≡ Ok stage
    → linear_stage frame settings ≡ stage
linear_made frame settings stage = by (int_lt (pos 0) (span_under frame settings))
  where
    by : (above : Bool) → (if above then Ok (linear_stage frame settings) else Err fault.Levels) ≡ Ok stage
        → linear_stage frame settings ≡ stage
    by true t = ok_is (linear_stage frame settings) stage t
    by false t = absurd (cc)

-- the stage before the change
abbrev old_of : Frame → Settings → List ℤ → Change → DevStage
old_of frame before matrix (key.Black black) = linear_stage frame before
old_of frame before matrix (key.White white) = linear_stage frame before
old_of frame before matrix (key.Demosaic kind) = demosaic_stage frame before
old_of frame before matrix (key.Wb gains) = balance_stage frame before
old_of frame before matrix (key.Exposure exposure) = balance_stage frame before
old_of frame before matrix (key.Matrix choice) = Matrix matrix
old_of frame before matrix (key.Tone curve) = tone_stage before

old_at : (frame : Frame) (before : Settings) (matrix : List ℤ) (change : Change) (other : DevStage)
    → get_or (stages_with frame before matrix) (number_of frame change - 1) other ≡ old_of frame before matrix change
unfolding stages_with
old_at frame before matrix (key.Black black) other =
    linear_at frame (linear_stage frame before) (demosaic_stage frame before) (balance_stage frame before)
    (Matrix matrix) (tone_stage before) other
old_at frame before matrix (key.White white) other =
    linear_at frame (linear_stage frame before) (demosaic_stage frame before) (balance_stage frame before)
    (Matrix matrix) (tone_stage before) other
old_at frame before matrix (key.Demosaic kind) other = demosaic_at frame (linear_stage frame before)
    (demosaic_stage frame before) (balance_stage frame before) (Matrix matrix) (tone_stage before) other
old_at frame before matrix (key.Wb gains) other =
    last_at frame (linear_stage frame before) (demosaic_stage frame before) (balance_stage frame before) (Matrix matrix)
    (tone_stage before) other (balance_stage frame before) (balance_number frame - 1) 1 (omega arith) refl
old_at frame before matrix (key.Exposure exposure) other =
    last_at frame (linear_stage frame before) (demosaic_stage frame before) (balance_stage frame before) (Matrix matrix)
    (tone_stage before) other (balance_stage frame before) (balance_number frame - 1) 1 (omega arith) refl
old_at frame before matrix (key.Matrix choice) other =
    last_at frame (linear_stage frame before) (demosaic_stage frame before) (balance_stage frame before) (Matrix matrix)
    (tone_stage before) other (Matrix matrix) (balance_number frame + 1 - 1) 2 (omega arith) refl
old_at frame before matrix (key.Tone curve) other =
    last_at frame (linear_stage frame before) (demosaic_stage frame before) (balance_stage frame before) (Matrix matrix)
    (tone_stage before) other (tone_stage before) (balance_number frame + 2 - 1) 3 (omega arith) refl

-- the stage after it is like that one
new_like : (frame : Frame) (before : Settings) (matrix : List ℤ) (change : Change) (stage : DevStage)
    → touched frame (changed change before) change ≡ Ok stage → AreLike (old_of frame before matrix change) stage
new_like frame before matrix (key.Black black) stage t =
    subst (λ (new : DevStage). AreLike (linear_stage frame before) new)
    (linear_made frame (changed (key.Black black) before) stage t)
    (like_linear frame before (changed (key.Black black) before))
new_like frame before matrix (key.White white) stage t =
    subst (λ (new : DevStage). AreLike (linear_stage frame before) new)
    (linear_made frame (changed (key.White white) before) stage t)
    (like_linear frame before (changed (key.White white) before))
new_like frame before matrix (key.Demosaic kind) stage t =
    subst (λ (new : DevStage). AreLike (demosaic_stage frame before) new)
    (ok_is (demosaic_stage frame (changed (key.Demosaic kind) before)) stage t)
    (like_demosaic frame before (changed (key.Demosaic kind) before))
new_like frame before matrix (key.Wb gains) stage t =
    subst (λ (new : DevStage). AreLike (balance_stage frame before) new)
    (ok_is (balance_stage frame (changed (key.Wb gains) before)) stage t)
    (like_balance frame before (changed (key.Wb gains) before))
new_like frame before matrix (key.Exposure exposure) stage t =
    subst (λ (new : DevStage). AreLike (balance_stage frame before) new)
    (ok_is (balance_stage frame (changed (key.Exposure exposure) before)) stage t)
    (like_balance frame before (changed (key.Exposure exposure) before))
new_like frame before matrix (key.Matrix choice) stage t = like_matrix matrix (chosen_matrix frame.colour choice) stage
    t
new_like frame before matrix (key.Tone curve) stage t =
    subst (λ (new : DevStage). AreLike (tone_stage before) new) (ok_is (tone_stage (changed (key.Tone curve) before))
    stage t) (like_tone before (changed (key.Tone curve) before))

are_like : (frame : Frame) (change : Change) (before : Settings) (stages : List DevStage) (stage old : DevStage)
    → Has frame before stages → touched frame (changed change before) change ≡ Ok stage
    → slice_get stages (number_of frame change - 1) ≡ Some old → AreLike old stage
are_like frame change before stages stage old h t at =
    let is : old_of frame before h.matrix change ≡ old =
    sym (old_at frame before h.matrix change old)
    ∙ ap (λ (xs : List DevStage). get_or xs (number_of frame change - 1) old) h.are
    ∙ get_or_from_slice_get stages (number_of frame change - 1) old old at in
    subst (λ (o : DevStage). AreLike o stage) is (new_like frame before h.matrix change stage t)

-- the stages of settings, after a change of them
becomes : (frame : Frame) (change : Change) (before : Settings) (stages : List DevStage) (stage : DevStage)
    → planned frame before ≡ Ok stages → touched frame (changed change before) change ≡ Ok stage
    → Becomes frame (changed change before) stages (number_of frame change) stage
becomes frame change before stages stage planned_before t =
    let h = has frame before stages planned_before in
    let places = numbered frame change before stages h in
    record {
      low = places.0;
      high = places.1;
      all = are_replaced frame change before stages stage h t;
      like = λ old at. are_like frame change before stages stage old h t at;
    }

pub replaces : (frame : Frame) (change : Change) (after : Settings) (number : ℕ) (stage : DevStage)
    → number ≡ number_of frame change → touched frame after change ≡ Ok stage → Replaces frame change after number stage
replaces frame change after number stage is t before stages same planned_before =
    subst (λ (n : ℕ). Becomes frame after stages n stage) (sym is)
    (subst (λ (settings : Settings). Becomes frame settings stages (number_of frame change) stage) (sym same)
    (becomes frame change before stages stage planned_before
    (subst (λ (settings : Settings). touched frame settings change ≡ Ok stage) same t)))
