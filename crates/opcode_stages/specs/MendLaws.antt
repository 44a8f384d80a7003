-- Laws of mending as a stage: this project's own.
use Rattle.std.proofs.Common.{◌≡◌, ℕ, ◌+◌, ◌<◌, ◌≤◌, ◌==◌, ◌&&◌, not, Bool, true, false, ⊎_elim, if◌then◌else◌, List}
use Rattle.std.proofs.Common.{[], ◌∷◌, refl, sym, ◌∙◌, ap, arith}
use Rattle.std.specs.List.{All, sum_by}
use Rattle.std.proofs.lemmas.List.Sums.{sum_by-cons}
use Rattle.std.proofs.lemmas.List.Elements.{All-head, All-tail, All-from_recursion, All-weaker}
use Rattle.std.proofs.lemmas.Bool.{cases_Bool}
use Rattle.std.proofs.lemmas.Bool.Decides.{nat_tests}
use Rattle.plane_view.specs.declared.Rect.{Rect}
use Rattle.plane_view.specs.declared.Shape.{Shape}
use Rattle.plane_view.specs.Rectangles.{HasPixel, grown, whole_rect}
use Rattle.stage_core.specs.Planes.{IsPart}
use Rattle.stage_core.specs.Stages.{RestsOn}
use Rattle.opcode_stages.specs.declared.steps.Step.{Step}
use Rattle.opcode_stages.specs.Mends.{IsSingle, steps_of, is_green, row_after, col_after, stays, is_good, good_sum}
use Rattle.opcode_stages.specs.Mends.{good_count, mean_or, mended_at, equals, is_listed}
use Rattle.opcode_stages.specs.inner.MendRows.{IsShort}

-- whether a pixel is bad rests on its sample
abbrev pub BadRests : ((ℕ → ℕ → ℕ → ℕ) → ℕ → ℕ → Bool) → Type 0
BadRests bad = (f g : ℕ → ℕ → ℕ → ℕ) (r c : ℕ) → f r c 0 ≡ g r c 0 → bad f r c ≡ bad g r c

-- whether a pixel equals a number rests on its sample
pub equals_rests : (constant : ℕ) → BadRests (equals constant)
equals_rests constant f g r c same = ap (λ (v : ℕ). v == constant) same

-- the same terms have the same sum
same_sums : {X : Type 0} (f g : X → ℕ) (xs : List X) → All (λ x. f x ≡ g x) xs → sum_by f xs ≡ sum_by g xs
same_sums f g [] same = refl
same_sums f g (x ∷ xs) same =
    sum_by-cons f x xs
    ∙ ap (λ n. n + sum_by f xs) (All-head (λ x. f x ≡ g x) x xs same)
    ∙ ap (λ n. g x + n) (same_sums f g xs (All-tail (λ x. f x ≡ g x) x xs same))
    ∙ sym (sum_by-cons g x xs)

-- the steps are short
steps_short : (green : Bool) → All IsShort (steps_of green)
steps_short true =
    All-from_recursion IsShort (steps_of true) (
      record { up = omega arith; down = omega arith; left = omega arith; right = omega arith },
      (
        record { up = omega arith; down = omega arith; left = omega arith; right = omega arith },
        (
          record { up = omega arith; down = omega arith; left = omega arith; right = omega arith },
          (record { up = omega arith; down = omega arith; left = omega arith; right = omega arith }, tt),
        ),
      ),
    )
steps_short false =
    All-from_recursion IsShort (steps_of false) (
      record { up = omega arith; down = omega arith; left = omega arith; right = omega arith },
      (
        record { up = omega arith; down = omega arith; left = omega arith; right = omega arith },
        (
          record { up = omega arith; down = omega arith; left = omega arith; right = omega arith },
          (record { up = omega arith; down = omega arith; left = omega arith; right = omega arith }, tt),
        ),
      ),
    )

-- what holds of each short step holds of each of these
each_step : (P : Step → Type 0) → ((step : Step) → IsShort step → P step) → (green : Bool) → All P (steps_of green)
each_step P holds green = All-weaker IsShort P holds (steps_of green) (steps_short green)

-- what a step that stays in a plane says
pub record Stays (rows cols r c : ℕ) (step : Step) : Type 0 where
  pub up : step.up ≤ r
  pub down : r + step.down < rows
  pub left : step.left ≤ c
  pub right : c + step.right < cols

-- where `stays` is true, the step stays in the plane
pub stays_so : (rows cols r c : ℕ) (step : Step) → stays rows cols r c step ≡ true → Stays rows cols r c step
stays_so rows cols r c step e =
    record {
      up = grind (arith, nat_tests);
      down = grind (arith, nat_tests);
      left = grind (arith, nat_tests);
      right = grind (arith, nat_tests);
    }

-- a short step that stays in the plane ends in what a rectangle needs
step_in : (rows cols r c : ℕ) (step : Step) (rect : Rect) → IsShort step → Stays rows cols r c step → HasPixel rect r c
    → HasPixel (grown rect 2 (whole_rect rows cols)) (row_after r step) (col_after c step)
step_in rows cols r c step rect short in_plane pixel =
    record { top = omega arith; bottom = omega arith; left = omega arith; right = omega arith }

-- the same neighbours are good, and have the same samples
same_good : (bad : (ℕ → ℕ → ℕ → ℕ) → ℕ → ℕ → Bool) → BadRests bad
    → (rows cols : ℕ) (f g : ℕ → ℕ → ℕ → ℕ) (r c : ℕ) (rect : Rect) → HasPixel rect r c
    → ((i j : ℕ) → HasPixel (grown rect 2 (whole_rect rows cols)) i j → f i j 0 ≡ g i j 0) → (value : Bool → ℕ → ℕ)
    → ((x : ℕ) → value false x ≡ 0) → (step : Step) → IsShort step
    → value (is_good (bad f) rows cols r c step) (f (row_after r step) (col_after c step) 0)
    ≡ value (is_good (bad g) rows cols r c step) (g (row_after r step) (col_after c step) 0)
same_good bad rests rows cols f g r c rect pixel agree value none step short =
    let i : ℕ = row_after r step in
    let j : ℕ = col_after c step in
    ⊎_elim
    (λ (inside : stays rows cols r c step ≡ true).
    let same : f i j 0 ≡ g i j 0 =
    agree i j (step_in rows cols r c step rect short (stays_so rows cols r c step inside) pixel) in
    ap (λ (b : Bool). value (stays rows cols r c step && not b) (f i j 0)) (rests f g i j same)
    ∙ ap (λ (v : ℕ). value (is_good (bad g) rows cols r c step) v) same)
    (λ (outside : stays rows cols r c step ≡ false).
    ap (λ (b : Bool). value (b && not (bad f i j)) (f i j 0)) outside ∙ none (f i j 0)
    ∙ sym (ap (λ (b : Bool). value (b && not (bad g i j)) (g i j 0)) outside ∙ none (g i j 0)))
    (cases_Bool (stays rows cols r c step))

-- whether a pixel is listed rests on no sample
pub listed_rests : (points : List (ℕ × ℕ)) (rects : List Rect) → BadRests (is_listed points rects)
listed_rests points rects f g r c same = refl

-- mended samples rest on those up to two rows and columns off, where badness rests on a pixel's sample
pub mend_rests : (bad : (ℕ → ℕ → ℕ → ℕ) → ℕ → ℕ → Bool) → BadRests bad → (phase : ℕ) (input : Shape) (rect : Rect)
    → IsSingle input → IsPart rect input
    → RestsOn (λ at. mended_at (bad at) phase input.rows input.cols at) input.planes
    (grown rect 2 (whole_rect input.rows input.cols)) input.planes rect
mend_rests bad rests phase input rect single part = record {
  same = λ f g agree r c p pixel plane.
      let rows : ℕ = input.rows in
      let cols : ℕ = input.cols in
      let green : Bool = is_green phase r c in
      let here : f r c p ≡ g r c p =
      agree r c p (record { top = omega arith; bottom = omega arith; left = omega arith; right = omega arith }) plane in
      let is_bad : bad f r c ≡ bad g r c =
      rests f g r c (agree r c 0 (record {
        top = omega arith;
        bottom = omega arith;
        left = omega arith;
        right = omega arith;
      }) (omega arith)) in
      let near = λ (i j : ℕ) (there : HasPixel (grown rect 2 (whole_rect rows cols)) i j). agree i j 0 there
      (omega arith) in
      let count : good_count (bad f) rows cols r c (steps_of green) ≡ good_count (bad g) rows cols r c
      (steps_of green) =
      same_sums _ _ (steps_of green)
      (each_step _ (λ step short. same_good bad rests rows cols f g r c rect pixel near (λ b v. if b then 1 else 0)
      (λ v. refl) step short) green) in
      let total : good_sum (bad f) rows cols f r c (steps_of green) ≡ good_sum (bad g) rows cols g r c
      (steps_of green) =
      same_sums _ _ (steps_of green)
      (each_step _ (λ step short. same_good bad rests rows cols f g r c rect pixel near (λ b v. if b then v else 0)
      (λ v. refl) step short) green) in
      λ i. if is_bad i then mean_or (here i) (total i) (count i) else here i;
}
