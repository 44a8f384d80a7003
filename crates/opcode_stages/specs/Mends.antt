-- Bad pixels that are mended (DNG 1.6, FixBadPixelsConstant and FixBadPixelsList). Which neighbours a bad pixel is
-- mended from, and their mean, is this project's own.
use Rattle.std.specs.Prelude.{◌≡◌, ℕ, ◌+◌, ◌-◌, ◌*◌, ◌/◌, ◌%◌, ◌==◌, ◌&&◌, ◌||◌, not, Bool, nat_le, nat_lt}
use Rattle.std.specs.Prelude.{if◌then◌else◌, List, [], ◌∷◌, count_by}
use Rattle.std.specs.List.{sum_by, list_any}
use Rattle.plane_view.specs.declared.Rect.{Rect}
use Rattle.plane_view.specs.declared.Shape.{Shape}
use Rattle.plane_view.specs.Plane.{Plane, sample, plane_of}
use Rattle.plane_view.specs.Rectangles.{has_pixel}
use Rattle.opcode_stages.specs.declared.steps.Step.{Step}

-- planes of one sample a pixel
abbrev pub IsSingle : Shape → Type 0
IsSingle input = input.planes ≡ 1

-- whether a pixel is green. The phase tells the plane's top left pixel: 0 red, 1 green in a row of green and red, 2
-- green in a row of green and blue, 3 blue
abbrev pub is_green : (phase r c : ℕ) → Bool
is_green phase r c = if (phase == 0) || (phase == 3) then (r + c) % 2 == 1 else (r + c) % 2 == 0

-- the steps to the neighbours of a green pixel: the four diagonal ones
abbrev pub diagonal_steps : List Step
diagonal_steps =
    record { up = 1; down = 0; left = 1; right = 0 }
    ∷ record { up = 1; down = 0; left = 0; right = 1 }
    ∷ record { up = 0; down = 1; left = 1; right = 0 }
    ∷ record { up = 0; down = 1; left = 0; right = 1 }
    ∷ []

-- the steps to the neighbours of another pixel: those two rows or two columns off
abbrev pub straight_steps : List Step
straight_steps =
    record { up = 2; down = 0; left = 0; right = 0 }
    ∷ record { up = 0; down = 2; left = 0; right = 0 }
    ∷ record { up = 0; down = 0; left = 2; right = 0 }
    ∷ record { up = 0; down = 0; left = 0; right = 2 }
    ∷ []

-- the steps to the neighbours of a pixel that is green, or isn't
abbrev pub steps_of : Bool → List Step
steps_of green = if green then diagonal_steps else straight_steps

-- the row after a step
abbrev pub row_after : ℕ → Step → ℕ
row_after r step = r + step.down - step.up

-- the column after a step
abbrev pub col_after : ℕ → Step → ℕ
col_after c step = c + step.right - step.left

-- whether a step from row r, column c stays in a plane of these rows and columns
abbrev pub stays : (rows cols r c : ℕ) → Step → Bool
stays rows cols r c step =
    nat_le step.up r && nat_lt (r + step.down) rows && nat_le step.left c && nat_lt (c + step.right) cols

-- whether a neighbour of row r, column c is in the plane and not bad
abbrev pub is_good : (ℕ → ℕ → Bool) → (rows cols r c : ℕ) → Step → Bool
is_good bad rows cols r c step = stays rows cols r c step && not (bad (row_after r step) (col_after c step))

-- how many good neighbours of row r, column c these steps lead to
abbrev pub good_count : (ℕ → ℕ → Bool) → (rows cols r c : ℕ) → List Step → ℕ
good_count bad rows cols r c steps = count_by (is_good bad rows cols r c) steps

-- the sum of the samples of the good neighbours that these steps lead to
abbrev pub good_sum : (ℕ → ℕ → Bool) → (rows cols : ℕ) → (ℕ → ℕ → ℕ → ℕ) → ℕ → ℕ → List Step → ℕ
good_sum bad rows cols at r c steps =
    sum_by (λ step. if is_good bad rows cols r c step then at (row_after r step) (col_after c step) 0 else 0) steps

-- the mean of n numbers with this sum, rounded to the nearest number, a half up; or another number, of none
abbrev pub mean_or : ℕ → (sum n : ℕ) → ℕ
mean_or other sum n = if n == 0 then other else (2 * sum + n) / (2 * n)

-- the sample at row r, column c, where some pixels are bad: a bad one is the mean of its good neighbours, all of the
-- input
abbrev pub mended_at : (ℕ → ℕ → Bool) → (phase rows cols : ℕ) → (ℕ → ℕ → ℕ → ℕ) → ℕ → ℕ → ℕ → ℕ
mended_at bad phase rows cols at r c p =
    let steps = steps_of (is_green phase r c) in
    if bad r c then mean_or (at r c p) (good_sum bad rows cols at r c steps) (good_count bad rows cols r c steps)
    else at r c p

-- the mended plane, where the samples tell which pixels are bad
abbrev pub mended : ((ℕ → ℕ → ℕ → ℕ) → ℕ → ℕ → Bool) → ℕ → Plane → Plane
mended bad phase P = plane_of P.rows P.cols P.planes (mended_at (bad (sample P)) phase P.rows P.cols (sample P))

-- a pixel is bad where its sample equals a number
abbrev pub equals : ℕ → (ℕ → ℕ → ℕ → ℕ) → ℕ → ℕ → Bool
equals constant at r c = at r c 0 == constant

-- whether a pixel is one of some points (row, column)
abbrev pub is_point : List (ℕ × ℕ) → ℕ → ℕ → Bool
is_point points r c = list_any (λ point. (point.0 == r) && (point.1 == c)) points

-- whether a pixel is bad: it is one of some points, or lies in one of some rectangles
abbrev pub is_listed : List (ℕ × ℕ) → List Rect → (ℕ → ℕ → ℕ → ℕ) → ℕ → ℕ → Bool
is_listed points rects at r c = is_point points r c || list_any (has_pixel r c) rects
