-- Laws of the sums round a pixel, for the contracts between functions of this crate: the demosaiced sample by them,
-- and what they rest on. This is this project's own.
use Rattle.std.proofs.Common.{◌≡◌, ℕ, ◌+◌, ◌<◌, ◌≤◌, Bool, true, false, cond, eqb, List, ℤ, pos, ◌+ℤ◌, ◌-ℤ◌, ◌*ℤ◌, refl}
use Rattle.std.proofs.Common.{sym, ◌∙◌, ap, arith}
use Rattle.std.proofs.lemmas.Int.{ints}
use Rattle.plane_view.specs.declared.Rect.{Rect}
use Rattle.plane_view.specs.Rectangles.{HasPixel, grown, whole_rect}
use Rattle.plane_view.specs.Reflect.{reflected}
use Rattle.plane_view.proofs.Reflections.{reflected_at, reflected_near, pixel_within, IsWithin}
use Rattle.malvar.specs.Pattern.{colour_at}
use Rattle.malvar.specs.declared.Kind.{Kind}
use Rattle.malvar.specs.declared.Kind.TheVariants.{Malvar, Bilinear}
use Rattle.malvar.specs.Demosaic.{Weights, bilinear, table_of, reach_of, weights_at, weights_by, weighted_sum}
use Rattle.malvar.specs.Demosaic.{rounded, demosaiced_at}
use Rattle.malvar.specs.Demosaic.{here, up_1, up_2, down_1, down_2, left_1, left_2, right_1, right_2}
use Rattle.malvar.specs.inner.Around.{weighted, sample_by, around_in, around_of}
use Rattle.malvar.specs.declared.filters.Around.{Around}

-- the sums at row r, column c, each place by its steps
abbrev by_steps : (rows cols : ℕ) → (ℕ → ℕ → ℕ → ℕ) → ℕ → ℕ → Around
by_steps rows cols at r c =
    around_in at (reflected rows (pos r +ℤ up_2)) (reflected rows (pos r +ℤ up_1)) (reflected rows (pos r +ℤ here))
    (reflected rows (pos r +ℤ down_1)) (reflected rows (pos r +ℤ down_2)) (reflected cols (pos c +ℤ left_2))
    (reflected cols (pos c +ℤ left_1)) (reflected cols (pos c +ℤ here)) (reflected cols (pos c +ℤ right_1))
    (reflected cols (pos c +ℤ right_2))

-- a step in the one spelling and in the other
step_up : (n i j : ℕ) (z : ℤ) → z ≡ (pos i -ℤ pos j) → reflected n z ≡ reflected n (pos i -ℤ pos j)
step_up n i j z e = ap (reflected n) e

step_down : (n i : ℕ) (z : ℤ) → z ≡ pos i → reflected n z ≡ reflected n (pos i)
step_down n i z e = ap (reflected n) e

-- the sums as far away as 2
reach_2 : (rows cols : ℕ) (at : ℕ → ℕ → ℕ → ℕ) (r c : ℕ) → r < rows → c < cols
    → by_steps rows cols at r c ≡ around_of 2 rows cols at r c
reach_2 rows cols at r c in_rows in_cols =
    let far_up = step_up rows r 2 (pos r +ℤ up_2) (omega (arith, ints)) in
    let up = step_up rows r 1 (pos r +ℤ up_1) (omega (arith, ints)) in
    let row = reflected_at rows r (pos r +ℤ here) (omega (arith, ints)) in_rows in
    let down = step_down rows (r + 1) (pos r +ℤ down_1) (omega (arith, ints)) in
    let far_down = step_down rows (r + 2) (pos r +ℤ down_2) (omega (arith, ints)) in
    let far_left = step_up cols c 2 (pos c +ℤ left_2) (omega (arith, ints)) in
    let left = step_up cols c 1 (pos c +ℤ left_1) (omega (arith, ints)) in
    let column = reflected_at cols c (pos c +ℤ here) (omega (arith, ints)) in_cols in
    let right = step_down cols (c + 1) (pos c +ℤ right_1) (omega (arith, ints)) in
    let far_right = step_down cols (c + 2) (pos c +ℤ right_2) (omega (arith, ints)) in
    λ i. around_in at (far_up i) (up i) (row i) (down i) (far_down i) (far_left i) (left i) (column i) (right i)
    (far_right i)

-- weights that are 0 but for the nearest samples
record IsNear (w : Weights) : Type 0 where
  horizontal : w.horizontal_2 ≡ pos 0
  vertical : w.vertical_2 ≡ pos 0

near_if : (b : Bool) (v w : Weights) → IsNear v → IsNear w → IsNear (cond b v w)
near_if true v w is_v is_w = is_v
near_if false v w is_v is_w = is_w

near_weights : (own right wanted : ℕ) → IsNear (weights_by bilinear own right wanted)
near_weights own right wanted =
    near_if (eqb wanted 1) bilinear.green _ (record { horizontal = refl; vertical = refl })
    (near_if (eqb own 1) _ bilinear.opposite
    (near_if (eqb right wanted) bilinear.in_row bilinear.in_column (record { horizontal = refl; vertical = refl })
    (record { horizontal = refl; vertical = refl }))
    (record { horizontal = refl; vertical = refl }))

no_weight : (w : ℤ) (m n : ℕ) → w ≡ pos 0 → w *ℤ pos m ≡ w *ℤ pos n
no_weight w m n none =
    let zero_m : pos 0 *ℤ pos m ≡ pos 0 = omega (arith, ints) in
    let zero_n : pos 0 *ℤ pos n ≡ pos 0 = omega (arith, ints) in
    ap (λ v. v *ℤ pos m) none ∙ zero_m ∙ sym (ap (λ v. v *ℤ pos n) none ∙ zero_n)

-- then the sums farther away don't count
near_sums : (w : Weights) (a b : Around) → IsNear w → a.centre ≡ b.centre → a.horizontal ≡ b.horizontal
    → a.vertical ≡ b.vertical → a.diagonal ≡ b.diagonal → weighted w a ≡ weighted w b
near_sums w a b near centre horizontal vertical diagonal =
    let far_horizontal = no_weight w.horizontal_2 a.horizontal_far b.horizontal_far near.horizontal in
    let far_vertical = no_weight w.vertical_2 a.vertical_far b.vertical_far near.vertical in
    λ i. w.centre *ℤ pos (centre i) +ℤ w.horizontal *ℤ pos (horizontal i) +ℤ w.vertical *ℤ pos (vertical i)
    +ℤ w.diagonal *ℤ pos (diagonal i) +ℤ far_horizontal i +ℤ far_vertical i

-- the weighted sum round a pixel, by the sums as far away as the kind reaches
sum_is : (kind : Kind) (cfa : List ℕ) (rows cols : ℕ) (at : ℕ → ℕ → ℕ → ℕ) (r c p : ℕ) → r < rows → c < cols
    → weighted_sum rows cols at r c (weights_at (table_of kind) cfa r c p)
    ≡ weighted (weights_by (table_of kind) (colour_at cfa r c) (colour_at cfa r (c + 1)) p)
    (around_of (reach_of kind) rows cols at r c)
sum_is Malvar cfa rows cols at r c p in_rows in_cols =
    ap (weighted (weights_by (table_of Malvar) (colour_at cfa r c) (colour_at cfa r (c + 1)) p))
    (reach_2 rows cols at r c in_rows in_cols)
sum_is Bilinear cfa rows cols at r c p in_rows in_cols =
    let w = weights_by bilinear (colour_at cfa r c) (colour_at cfa r (c + 1)) p in
    ap (weighted w) (reach_2 rows cols at r c in_rows in_cols)
    ∙ near_sums w (around_of 2 rows cols at r c) (around_of 1 rows cols at r c)
    (near_weights (colour_at cfa r c) (colour_at cfa r (c + 1)) p) refl refl refl refl

-- the demosaiced sample by these sums
pub sample_is : (kind : Kind) (cfa : List ℕ) (rows cols : ℕ) (at : ℕ → ℕ → ℕ → ℕ) (r c p : ℕ) → r < rows → c < cols
    → demosaiced_at (table_of kind) cfa rows cols at r c p ≡ sample_by (table_of kind) (colour_at cfa r c)
    (colour_at cfa r (c + 1)) (around_of (reach_of kind) rows cols at r c) p
sample_is kind cfa rows cols at r c p in_rows in_cols =
    ap (λ (z : ℤ). cond (eqb (colour_at cfa r c) p) (at r c 0) (rounded z))
    (sum_is kind cfa rows cols at r c p in_rows in_cols)

-- places near a row or a column
pub record AreNear (n c by : ℕ) : Type 0 where
  pub before : IsWithin n c by (reflected n (pos c -ℤ pos 1))
  pub after : IsWithin n c by (reflected n (pos (c + 1)))
  pub far_before : IsWithin n c by (reflected n (pos c -ℤ pos by))
  pub far_after : IsWithin n c by (reflected n (pos (c + by)))
  pub same : IsWithin n c by c

-- columns up to `by` off, reflected at the edges, are near
pub are_near : (n c by : ℕ) → 4 ≤ n → c < n → 1 ≤ by → by ≤ 2 → AreNear n c by
are_near n c by size inside some few =
    record {
      before = reflected_near n c by (pos c -ℤ pos 1) size inside few (omega (arith, ints)) (omega (arith, ints));
      after = reflected_near n c by (pos (c + 1)) size inside few (omega (arith, ints)) (omega (arith, ints));
      far_before = reflected_near n c by (pos c -ℤ pos by) size inside few (omega (arith, ints)) (omega (arith, ints));
      far_after = reflected_near n c by (pos (c + by)) size inside few (omega (arith, ints)) (omega (arith, ints));
      same = record { low = omega arith; high = omega arith; inside = inside };
    }

-- the sums rest on the rectangle grown by what is reached
pub around_rests : (by rows cols : ℕ) (f g : ℕ → ℕ → ℕ → ℕ) (rect : Rect) (r c : ℕ) → 4 ≤ rows → 4 ≤ cols → 1 ≤ by
    → by ≤ 2 → r < rows → c < cols → HasPixel rect r c
    → ((i j : ℕ) → HasPixel (grown rect by (whole_rect rows cols)) i j → f i j 0 ≡ g i j 0)
    → around_of by rows cols f r c ≡ around_of by rows cols g r c
around_rests by rows cols f g rect r c tall wide some few in_rows in_cols pixel agree =
    let row = are_near rows r by tall in_rows some few in
    let col = are_near cols c by wide in_cols some few in
    let at : (i j : ℕ) → IsWithin rows r by i → IsWithin cols c by j → f i j 0 ≡ g i j 0 =
    λ i j ri cj. agree i j (pixel_within rect rows cols by r c i j pixel ri cj) in
    let centre = at r c row.same col.same in
    let left = at r _ row.same col.before in
    let right = at r _ row.same col.after in
    let up = at _ c row.before col.same in
    let down = at _ c row.after col.same in
    let up_left = at _ _ row.before col.before in
    let up_right = at _ _ row.before col.after in
    let down_left = at _ _ row.after col.before in
    let down_right = at _ _ row.after col.after in
    let far_left = at r _ row.same col.far_before in
    let far_right = at r _ row.same col.far_after in
    let far_up = at _ c row.far_before col.same in
    let far_down = at _ c row.far_after col.same in
    λ i. record {
      centre = centre i;
      horizontal = left i + right i;
      vertical = up i + down i;
      diagonal = (up_left i + up_right i) + (down_left i + down_right i);
      horizontal_far = far_left i + far_right i;
      vertical_far = far_up i + far_down i;
    }

-- a kind reaches 1 or 2 away
pub reaches : (kind : Kind) → (1 ≤ reach_of kind) × (reach_of kind ≤ 2)
reaches Malvar = (omega arith, omega arith)
reaches Bilinear = (omega arith, omega arith)
