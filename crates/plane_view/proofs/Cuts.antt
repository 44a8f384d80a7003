-- The parts that a plane is cut into make it up.
use Rattle.std.proofs.Common.{◌≡◌, ℕ, ◌+◌, ◌*◌, ◌/◌, ◌%◌, ◌<◌, ◌≤◌, length, map, slice_get, Some, sym, ◌∙◌}
use Rattle.std.proofs.Common.{ap, arith}
use Rattle.std.specs.Int.{div_ceil}
use Rattle.std.specs.List.{range_with_len}
use Rattle.std.proofs.Math.Nat.{mul-le-mul_right, div-eq_of_lt-le}
use Rattle.std.proofs.lemmas.Grind.{div_ceil_times}
use Rattle.std.proofs.lemmas.Nat.{div-mul-add, mod-mul-add, mul-add-lt, div_below, mod_below, div-add-mod'}
use Rattle.std.proofs.lemmas.List.FromFn.{length-map-range_with_len, get_or-map-range_with_len}
use Rattle.std.proofs.lemmas.Option.{slice_get-get_or, slice_get_within}
use Rattle.plane_view.specs.declared.Rect.{Rect}
use Rattle.plane_view.specs.declared.Shape.{Shape}
use Rattle.plane_view.specs.Cuts.{part, part_count, parts}
use Rattle.plane_view.specs.Rectangles.{HasPixel, IsNonEmpty, LiesIn, whole_rect}
use Rattle.plane_view.proofs.Samples.{second_positive}

-- a part begins within the length
pub part_begins : (n size i : ℕ) → 0 < size → i < div_ceil n size → i * size < n
part_begins n size i some below =
    let next : (i + 1) * size ≤ div_ceil n size * size = mul-le-mul_right size (omega arith) in
    omega (arith, div_ceil_times n size some)

-- the part of a place is a part
pub part_of_place : (n size x : ℕ) → 0 < size → x < n → x / size < div_ceil n size
part_of_place n size x some below =
    div_below x size (div_ceil n size) some (omega (arith, div_ceil_times n size some))

-- a length has a part
pub some_parts : (n size : ℕ) → 0 < n → 0 < size → 0 < div_ceil n size
some_parts n size some_length some = omega (arith, part_of_place n size 0 some some_length)

-- the corner of a part lies within the plane
pub part_top : (shape : Shape) (rows cols k : ℕ) → 0 < rows → k < part_count shape rows cols
    → (part shape rows cols k).top < shape.rows
part_top shape rows cols k some below =
    let across : ℕ = div_ceil shape.cols cols in
    let down : ℕ = div_ceil shape.rows rows in
    part_begins shape.rows rows (k / across) some
    (div_below k across down (second_positive down across k below) below)

pub part_left : (shape : Shape) (rows cols k : ℕ) → 0 < cols → k < part_count shape rows cols
    → (part shape rows cols k).left < shape.cols
part_left shape rows cols k some below =
    let across : ℕ = div_ceil shape.cols cols in
    part_begins shape.cols cols (k % across) some
    (mod_below k across (second_positive (div_ceil shape.rows rows) across k below))

-- a part has a pixel
pub part_non_empty : (shape : Shape) (rows cols k : ℕ) → 0 < rows → 0 < cols → k < part_count shape rows cols
    → IsNonEmpty (part shape rows cols k)
part_non_empty shape rows cols k some_rows some_cols below =
    let top = part_top shape rows cols k some_rows below in
    let left = part_left shape rows cols k some_cols below in
    record { rows = omega arith; cols = omega arith }

-- a part lies within the plane
pub part_lies : (shape : Shape) (rows cols k : ℕ) → LiesIn (part shape rows cols k) (whole_rect shape.rows shape.cols)
part_lies shape rows cols k =
    record { top = omega arith; bottom = omega arith; left = omega arith; right = omega arith }

-- how many parts there are
pub parts_length : (shape : Shape) (rows cols : ℕ) → length (parts shape rows cols) ≡ part_count shape rows cols
parts_length shape rows cols = length-map-range_with_len (part shape rows cols) 0 (part_count shape rows cols)

-- element k of a list that is made of the numbers below n
pub made_at : {X : Type 0} (f : ℕ → X) (n k : ℕ) → k < n → slice_get (map f (range_with_len 0 n)) k ≡ Some (f k)
made_at f n k below =
    slice_get-get_or (map f (range_with_len 0 n)) k (f 0) (omega (arith, length-map-range_with_len f 0 n))
    ∙ ap Some (get_or-map-range_with_len f 0 n k k (f 0) below (omega arith))

-- what is found in such a list is made of its place
pub made_found : {X : Type 0} (f : ℕ → X) (n k : ℕ) (x : X) → slice_get (map f (range_with_len 0 n)) k ≡ Some x
    → (k < n) × (x ≡ f k)
made_found f n k x at =
    let made = map f (range_with_len 0 n) in
    let below : k < n = omega (arith, length-map-range_with_len f 0 n, slice_get_within made k x at) in
    let same : Some x ≡ Some (f k) = sym at ∙ made_at f n k below in
    (below, (cc))

-- a part by its number
pub part_at : (shape : Shape) (rows cols k : ℕ) → k < part_count shape rows cols
    → slice_get (parts shape rows cols) k ≡ Some (part shape rows cols k)
part_at shape rows cols k below = made_at (part shape rows cols) (part_count shape rows cols) k below

-- a part that is found by its number
pub part_found : (shape : Shape) (rows cols k : ℕ) (rect : Rect) → slice_get (parts shape rows cols) k ≡ Some rect
    → (k < part_count shape rows cols) × (rect ≡ part shape rows cols k)
part_found shape rows cols k rect at = made_found (part shape rows cols) (part_count shape rows cols) k rect at

-- each pixel is in a part
pub pixel_part : (shape : Shape) (rows cols r c : ℕ) → 0 < rows → 0 < cols → r < shape.rows → c < shape.cols
    → (k : ℕ) × (k < part_count shape rows cols) × HasPixel (part shape rows cols k) r c
pixel_part shape rows cols r c some_rows some_cols row col =
    let across : ℕ = div_ceil shape.cols cols in
    let i : ℕ = r / rows in
    let j : ℕ = c / cols in
    let in_rows : i < div_ceil shape.rows rows = part_of_place shape.rows rows r some_rows row in
    let in_cols : j < across = part_of_place shape.cols cols c some_cols col in
    let down : (i * across + j) / across ≡ i = div-mul-add i across j in_cols in
    let right : (i * across + j) % across ≡ j = mod-mul-add i across j in_cols in (
      i * across + j,
      omega (arith, mul-add-lt i across j (div_ceil shape.rows rows) in_rows in_cols),
      rw (down, right) (record {
        top = omega (arith, div-add-mod' r rows);
        bottom = omega (arith, div-add-mod' r rows, mod_below r rows some_rows);
        left = omega (arith, div-add-mod' c cols);
        right = omega (arith, div-add-mod' c cols, mod_below c cols some_cols);
      }),
    )

-- a pixel is in one part alone
pub one_part : (shape : Shape) (rows cols i k r c : ℕ) → HasPixel (part shape rows cols i) r c
    → HasPixel (part shape rows cols k) r c → i ≡ k
one_part shape rows cols i k r c in_i in_k =
    let across : ℕ = div_ceil shape.cols cols in
    let row_i : r / rows ≡ i / across = div-eq_of_lt-le rows in_i.top (omega (arith, in_i.bottom)) in
    let row_k : r / rows ≡ k / across = div-eq_of_lt-le rows in_k.top (omega (arith, in_k.bottom)) in
    let col_i : c / cols ≡ i % across = div-eq_of_lt-le cols in_i.left (omega (arith, in_i.right)) in
    let col_k : c / cols ≡ k % across = div-eq_of_lt-le cols in_k.left (omega (arith, in_k.right)) in
    let same_row : i / across ≡ k / across = sym row_i ∙ row_k in
    let same_col : i % across ≡ k % across = sym col_i ∙ col_k in
    sym (div-add-mod' i across) ∙ ap (λ n. n * across + i % across) same_row
    ∙ ap (λ n. k / across * across + n) same_col ∙ div-add-mod' k across
