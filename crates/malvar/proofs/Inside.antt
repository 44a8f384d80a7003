-- Columns whose neighbours all lie in the plane.
use Rattle.std.proofs.Common.{◌≡◌, ℕ, ◌+◌, ◌-◌, ◌%◌, ◌<◌, ◌≤◌, pos, ◌-ℤ◌, refl, arith}
use Rattle.std.proofs.lemmas.Int.{ints}
use Rattle.plane_view.proofs.Reflections.{reflected_at}
use Rattle.malvar.specs.inner.Around.{site_at}
use Rattle.malvar.specs.inner.Rows.{around_by, around_at}
use Rattle.malvar.specs.declared.filters.Site.{Site}
use Rattle.malvar.specs.declared.windows.Window.{Window}

-- where nothing is reflected, the sums stand where the columns do
pub around_inside : (by : ℕ) (w : Window) (c far_left left at right far_right : ℕ) → far_left + by + w.left ≡ c
    → left + 1 + w.left ≡ c → at + w.left ≡ c → right + w.left ≡ c + 1 → far_right + w.left ≡ c + by → 1 ≤ by
    → c + by < w.cols
    → around_by w far_left left at right far_right ≡ around_at by w c
around_inside by w c far_left left at right far_right e1 e2 e3 e4 e5 some inside =
    let far_before = reflected_at w.cols (far_left + w.left) (pos c -ℤ pos by) (omega (arith, ints)) (omega arith) in
    let before = reflected_at w.cols (left + w.left) (pos c -ℤ pos 1) (omega (arith, ints)) (omega arith) in
    let after = reflected_at w.cols (right + w.left) (pos (c + 1)) (omega (arith, ints)) (omega arith) in
    let far_after = reflected_at w.cols (far_right + w.left) (pos (c + by)) (omega (arith, ints)) (omega arith) in
    let is_far_left : far_left ≡ far_left + w.left - w.left = omega arith in
    let is_left : left ≡ left + w.left - w.left = omega arith in
    let is_at : at ≡ c - w.left = omega arith in
    let is_right : right ≡ right + w.left - w.left = omega arith in
    let is_far_right : far_right ≡ far_right + w.left - w.left = omega arith in
    rw (far_before, before, after, far_after) (λ i. around_by w (is_far_left i) (is_left i) (is_at i) (is_right i)
    (is_far_right i))

-- the sites of a pair of columns
pub even_column : (even odd : Site) (c : ℕ) → c % 2 ≡ 0 → even ≡ site_at even odd c
even_column even odd c e = rw e refl

pub odd_column : (even odd : Site) (c : ℕ) → c % 2 ≡ 1 → odd ≡ site_at even odd c
odd_column even odd c e = rw e refl
