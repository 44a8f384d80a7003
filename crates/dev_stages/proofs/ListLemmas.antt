-- Walks over the opcodes of a list, and the shapes that their stages take.
use Rattle.std.proofs.Common.{◌≡◌, ℕ, ◌+◌, ◌<◌, ◌≤◌, ◌⊎◌, ⊎_elim, true, false, nat_le, All, List}
use Rattle.std.proofs.Common.{[], ◌∷◌, ◌++◌, Option, None, Some, drop, get_or, length, refl, sym, ◌∙◌, ap}
use Rattle.std.proofs.Common.{subst, arith}
use Rattle.std.specs.List.{cons_option}
use Rattle.std.proofs.lemmas.Bool.{and_parts, cases_Bool, cond-false, cond-true, leb-true}
use Rattle.std.specs.Option.{option_to_list}
use Rattle.std.proofs.lemmas.List.{append_assoc, drop_all, drop_more}
use Rattle.std.proofs.lemmas.List.Elements.{All-head, All-tail, All-weaker}
use Rattle.plane_view.specs.declared.Shape.{Shape}
use Rattle.stage_chain.specs.Chains.{TakeInTurn}
use Rattle.opcode_list.specs.Params.{CanRun, CanRunIn}
use Rattle.opcode_list.specs.Trims.{IsPartOf, first_misfit, fits, left_after, left_by}
use Rattle.opcode_list.specs.declared.opcode.Opcode.{Opcode}
use Rattle.opcode_list.specs.declared.opcode.Opcode.TheVariants.{FixConstant, FixList, Map, Skipped, Trim}
use Rattle.opcode_list.proofs.TrimLemmas.{part_on}
use Rattle.dev_stages.specs.Listed.{listed, opcode_stage}
use Rattle.dev_stages.specs.Members.{shaped_of, takes_of}
use Rattle.dev_stages.specs.declared.stage.DevStage.{DevStage}

-- the stages from one opcode of a list on
pub listed_on : (opcodes : List Opcode) (k : ℕ) (opcode : Opcode) → k < length opcodes
    → opcode ≡ get_or opcodes k opcode
    → listed (drop k opcodes) ≡ cons_option (opcode_stage opcode) (listed (drop (k + 1) opcodes))
unfolding listed
listed_on opcodes k opcode within is =
    ap listed (drop_more opcodes k opcode within ∙ ap (λ first. first ∷ drop (k + 1) opcodes) (sym is))

-- the stage of an opcode, if it has one, and those behind it
cons_option-append : {X : Type 0} (o : Option X) (xs ys : List X) → cons_option o xs ++ ys ≡ cons_option o (xs ++ ys)
cons_option-append None xs ys = refl
cons_option-append (Some x) xs ys = refl

appended : {X : Type 0} (xs : List X) (o : Option X) (ys : List X)
    → (xs ++ option_to_list o) ++ ys ≡ xs ++ cons_option o ys
appended xs None ys = append_assoc xs [] ys
appended xs (Some x) ys = append_assoc xs (x ∷ []) ys

length-cons_option : {X : Type 0} (o : Option X) (xs : List X)
    → length (cons_option o xs) ≡ length (option_to_list o) + length xs
length-cons_option None xs = omega arith
length-cons_option (Some x) xs = omega arith

-- stages so far, with the next one
pub pushed_on : (opcodes : List Opcode) (k : ℕ) (opcode : Opcode) (before after all : List DevStage)
    → k < length opcodes → opcode ≡ get_or opcodes k opcode → after ≡ before ++ option_to_list (opcode_stage opcode)
    → before ++ listed (drop k opcodes) ≡ all → after ++ listed (drop (k + 1) opcodes) ≡ all
pushed_on opcodes k opcode before after all within is push so_far =
    ap (λ xs. xs ++ listed (drop (k + 1) opcodes)) push
    ∙ appended before (opcode_stage opcode) (listed (drop (k + 1) opcodes))
    ∙ ap (λ xs. before ++ xs) (sym (listed_on opcodes k opcode within is))
    ∙ so_far

pub counted_on : (opcodes : List Opcode) (k : ℕ) (opcode : Opcode) → k < length opcodes
    → opcode ≡ get_or opcodes k opcode
    → length (listed (drop k opcodes))
    ≡ length (option_to_list (opcode_stage opcode)) + length (listed (drop (k + 1) opcodes))
counted_on opcodes k opcode within is = ap length (listed_on opcodes k opcode within is)
    ∙ length-cons_option (opcode_stage opcode) (listed (drop (k + 1) opcodes))

pub all_listed : (opcodes : List Opcode) (k : ℕ) → length opcodes ≤ k → listed (drop k opcodes) ≡ []
unfolding listed
all_listed opcodes k all = ap listed (drop_all k opcodes all)

-- the first opcode of a list in which no trim is a misfit, and those behind it
abbrev FitsThen : ℕ → Opcode → List Opcode → Shape → Type 0
FitsThen index opcode more shape = (fits opcode shape ≡ true)
    × (first_misfit (index + 1) more (left_by opcode shape) ≡ None)

fits_then : (index : ℕ) (opcode : Opcode) (more : List Opcode) (shape : Shape)
    → first_misfit index (opcode ∷ more) shape ≡ None → FitsThen index opcode more shape
unfolding first_misfit
fits_then index opcode more shape fit =
    ⊎_elim (λ (here : fits opcode shape ≡ true). (here, sym (cond-true _ _ _ here) ∙ fit))
    (λ (not_here : fits opcode shape ≡ false). absurd (cc (sym (cond-false _ _ _ not_here) ∙ fit)))
    (cases_Bool (fits opcode shape))

-- the stage of an opcode, if it has one, and those behind it are taken in turn
one_then : (list : ℕ) (opcode : Opcode) (shape : Shape) (rest : List DevStage) → CanRunIn list opcode
    → (list ≤ 2 → shape.planes ≡ 1) → fits opcode shape ≡ true
    → TakeInTurn takes_of shaped_of rest (left_by opcode shape)
    → TakeInTurn takes_of shaped_of (cons_option (opcode_stage opcode) rest) shape
one_then list (FixConstant constant phase) shape rest runs single fit taken = (single runs.1, taken)
one_then list (FixList phase points rects) shape rest runs single fit taken = (single runs.1, taken)
one_then list (Trim rect) shape rest runs single fit taken =
    let both = and_parts (nat_le rect.bottom shape.rows) (nat_le rect.right shape.cols) fit in
    let bottom = leb-true rect.bottom shape.rows both.0 in
    let right = leb-true rect.right shape.cols both.1 in (
      record {
        some = runs.0;
        inside = record { top = omega arith; left = omega arith; bottom = bottom; right = right };
      },
      taken,
    )
one_then list (Map rect plane planes row_pitch col_pitch table) shape rest runs single fit taken = (tt, taken)
one_then list (Skipped id) shape rest runs single fit taken = taken

-- an opcode leaves the number of planes
left_planes : (opcode : Opcode) (shape : Shape) → (left_by opcode shape).planes ≡ shape.planes
left_planes (FixConstant constant phase) shape = refl
left_planes (FixList phase points rects) shape = refl
left_planes (Trim rect) shape = refl
left_planes (Map rect plane planes row_pitch col_pitch table) shape = refl
left_planes (Skipped id) shape = refl

pub planes_left : (opcodes : List Opcode) (shape : Shape) → (left_after opcodes shape).planes ≡ shape.planes
unfolding left_after
planes_left [] shape = refl
planes_left (opcode ∷ more) shape = planes_left more (left_by opcode shape) ∙ left_planes opcode shape

-- the stages of a list are taken in turn from a shape of which no trim is a misfit, and lead to the shape that it
-- leaves
pub listed_then : (list index : ℕ) (opcodes : List Opcode) (shape : Shape) (rest : List DevStage)
    → All (CanRunIn list) opcodes → (list ≤ 2 → shape.planes ≡ 1) → first_misfit index opcodes shape ≡ None
    → TakeInTurn takes_of shaped_of rest (left_after opcodes shape)
    → TakeInTurn takes_of shaped_of (listed opcodes ++ rest) shape
unfolding listed left_after
listed_then list index [] shape rest runs single fit taken = taken
listed_then list index (opcode ∷ more) shape rest runs single fit taken =
    let here = fits_then index opcode more shape fit in
    let behind = listed_then list (index + 1) more (left_by opcode shape) rest
    (All-tail (CanRunIn list) opcode more runs) (λ low. left_planes opcode shape ∙ single low) here.1 taken in
    subst (λ (stages : List DevStage). TakeInTurn takes_of shaped_of stages shape)
    (sym (cons_option-append (opcode_stage opcode) (listed more) rest))
    (one_then list opcode shape (listed more ++ rest) (All-head (CanRunIn list) opcode more runs) single here.0 behind)

-- what holds of the opcodes of a list holds of each that can be run
pub all_run : (list : ℕ) (opcodes : List Opcode) → All (CanRunIn list) opcodes → All CanRun opcodes
all_run list opcodes runs = All-weaker (CanRunIn list) CanRun (λ opcode (run : CanRunIn list opcode). run.0) opcodes
    runs

-- what a list leaves is a part, where no trim is a misfit
pub left_part : (index : ℕ) (opcodes : List Opcode) (whole shape : Shape) → All CanRun opcodes
    → first_misfit index opcodes shape ≡ None → IsPartOf whole shape → IsPartOf whole (left_after opcodes shape)
unfolding left_after
left_part index [] whole shape runs fit part = part
left_part index (opcode ∷ more) whole shape runs fit part =
    let here = fits_then index opcode more shape fit in
    left_part (index + 1) more whole (left_by opcode shape) (All-tail CanRun opcode more runs) here.1
    (part_on opcode whole shape (All-head CanRun opcode more runs) here.0 part)
