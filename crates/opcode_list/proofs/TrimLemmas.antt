-- Opcodes by the lists in which they may stand, and the walk over the trims of a list.
use Rattle.std.proofs.Common.{◌≡◌, ℕ, ◌+◌, ◌<◌, ◌≤◌, ⊎_elim, true, false, nat_le, List, ◌∷◌, None, Some, drop, get_or}
use Rattle.std.proofs.Common.{length, sym, ◌∙◌, ap, arith}
use Rattle.std.proofs.lemmas.Bool.{and_parts, cases_lt, cond-false, cond-true, leb-true}
use Rattle.std.proofs.lemmas.List.{drop_all, drop_more}
use Rattle.plane_view.specs.declared.Shape.{Shape}
use Rattle.opcode_list.specs.Params.{CanRun, MayStandIn}
use Rattle.opcode_list.specs.Trims.{IsPartOf, first_misfit, fits, left_after, left_by}
use Rattle.opcode_list.specs.declared.opcode.Opcode.{Opcode}
use Rattle.opcode_list.specs.declared.opcode.Opcode.TheVariants.{FixConstant, FixList, Map, Skipped, Trim}

-- an opcode that mends has an ID of at most 5
by_id : (list id : ℕ) → (id ≤ 5 → list ≤ 2) → (6 ≤ id → 3 ≤ 2) → list ≤ 2
by_id list id low high = ⊎_elim (λ few. low (omega (arith, few)))
    (λ many. absurd (omega (arith, high (omega (arith, many))))) (cases_lt id 6)

pub may_stand : (list id : ℕ) (opcode : Opcode) → (id ≤ 5 → list ≤ 2) → (6 ≤ id → MayStandIn 3 opcode)
    → MayStandIn list opcode
may_stand list id (FixConstant constant phase) low high = by_id list id low high
may_stand list id (FixList phase points rects) low high = by_id list id low high
may_stand list id (Trim rect) low high = tt
may_stand list id (Map rect plane planes row_pitch col_pitch table) low high = tt
may_stand list id (Skipped id_) low high = tt

-- an opcode that is the next one of a list
next : {X : Type 0} (xs : List X) (k : ℕ) (x : X) → k < length xs → x ≡ get_or xs k x → drop k xs ≡ x ∷ drop (k + 1) xs
next xs k x within is = drop_more xs k x within ∙ ap (λ first. first ∷ drop (k + 1) xs) (sym is)

-- it fits
pub fits_on : (opcodes : List Opcode) (k : ℕ) (opcode : Opcode) (left : Shape) → k < length opcodes
    → opcode ≡ get_or opcodes k opcode → fits opcode left ≡ true
    → first_misfit k (drop k opcodes) left ≡ first_misfit (k + 1) (drop (k + 1) opcodes) (left_by opcode left)
unfolding first_misfit
fits_on opcodes k opcode left within is fit =
    ap (λ xs. first_misfit k xs left) (next opcodes k opcode within is) ∙ cond-true _ _ _ fit

-- it doesn't
pub misfits : (opcodes : List Opcode) (k : ℕ) (opcode : Opcode) (left : Shape) → k < length opcodes
    → opcode ≡ get_or opcodes k opcode → fits opcode left ≡ false
    → first_misfit k (drop k opcodes) left ≡ Some k
unfolding first_misfit
misfits opcodes k opcode left within is unfit =
    ap (λ xs. first_misfit k xs left) (next opcodes k opcode within is) ∙ cond-false _ _ _ unfit

pub left_on : (opcodes : List Opcode) (k : ℕ) (opcode : Opcode) (left : Shape) → k < length opcodes
    → opcode ≡ get_or opcodes k opcode
    → left_after (drop k opcodes) left ≡ left_after (drop (k + 1) opcodes) (left_by opcode left)
unfolding left_after
left_on opcodes k opcode left within is = ap (λ xs. left_after xs left) (next opcodes k opcode within is)

-- none is left
pub all_fit : (opcodes : List Opcode) (k : ℕ) (left : Shape) → length opcodes ≤ k → first_misfit k (drop k opcodes) left
    ≡ None
unfolding first_misfit
all_fit opcodes k left all = ap (λ xs. first_misfit k xs left) (drop_all k opcodes all)

pub all_left : (opcodes : List Opcode) (k : ℕ) (left : Shape) → length opcodes ≤ k → left_after (drop k opcodes) left
    ≡ left
unfolding left_after
all_left opcodes k left all = ap (λ xs. left_after xs left) (drop_all k opcodes all)

-- what an opcode that fits leaves is a part
pub part_on : (opcode : Opcode) (whole left : Shape) → CanRun opcode → fits opcode left ≡ true → IsPartOf whole left
    → IsPartOf whole (left_by opcode left)
part_on (FixConstant constant phase) whole left runs fit part = part
part_on (FixList phase points rects) whole left runs fit part = part
part_on (Trim rect) whole left runs fit part = record {
  some_rows = omega (arith, runs.rows);
  rows = omega (
    arith,
    leb-true rect.bottom left.rows (and_parts (nat_le rect.bottom left.rows) (nat_le rect.right left.cols) fit).0,
    part.rows,
  );
  some_cols = omega (arith, runs.cols);
  cols = omega (
    arith,
    leb-true rect.right left.cols (and_parts (nat_le rect.bottom left.rows) (nat_le rect.right left.cols) fit).1,
    part.cols,
  );
}
part_on (Map rect plane planes row_pitch col_pitch table) whole left runs fit part = part
part_on (Skipped id) whole left runs fit part = part
