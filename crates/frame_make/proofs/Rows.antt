-- Rows one after the other, and the samples of a made frame.
use Rattle.std.proofs.Common.{◌≡◌, ℕ, zero, suc, ◌+◌, ◌*◌, ◌<◌, List, [], ◌∷◌, ◌++◌, All, length, length-append, get_or}
use Rattle.std.proofs.Common.{take, drop, sym, ap, ◌∙◌, arith}
use Rattle.std.specs.List.{flat_map, range_with_len}
use Rattle.std.specs.Fork.{slice_chunk}
use Rattle.std.proofs.lemmas.List.{append-nil, drop-drop, drop_at, get_or-drop, get_or-take, take_at}
use Rattle.std.proofs.lemmas.List.Concat.{flat_map-append}
use Rattle.std.proofs.lemmas.List.Elements.{All-append, All-from_get_or, All-nil}
use Rattle.std.proofs.lemmas.List.FromFn.{get_or-map-range_with_len, length-map-range_with_len}
use Rattle.ljpeg_predict.proofs.EncodeLemmas.{one_place}
use Rattle.frame_make.specs.Made.{made_row, made_sample, made_samples}

-- one more row
pub one_row_more : (row : ℕ → List ℕ) (count : ℕ)
    → flat_map row (range_with_len 0 (count + 1)) ≡ flat_map row (range_with_len 0 count) ++ row count
one_row_more row count =
    ap (flat_map row) (one_place count)
    ∙ flat_map-append row (range_with_len 0 count) (count ∷ [])
    ∙ ap (λ x. flat_map row (range_with_len 0 count) ++ x) (append-nil (row count))

-- rows of n items
pub length-rows : (row : ℕ → List ℕ) (n a count : ℕ) → ((k : ℕ) → length (row k) ≡ n)
    → length (flat_map row (range_with_len a count)) ≡ count * n
length-rows row n a zero long = omega arith
length-rows row n a (suc count) long =
    let here = long a in
    let rest = length-rows row n (a + 1) count long in
    omega (arith, length-append (row a) (flat_map row (range_with_len (a + 1) count)))

-- part k of rows is row k
pub part_rows : (row : ℕ → List ℕ) (n a count k : ℕ) → ((i : ℕ) → length (row i) ≡ n) → k < count
    → slice_chunk (flat_map row (range_with_len a count)) n k ≡ row (a + k)
part_rows row n a zero k long h = absurd (omega arith)
part_rows row n a (suc count) zero long h =
    let none : zero * n ≡ 0 = omega arith in
    let first : a + zero ≡ a = omega arith in
    rw (none, first) (take_at (row a) (flat_map row (range_with_len (a + 1) count)) n (long a))
part_rows row n a (suc count) (suc k) long h =
    let rest = flat_map row (range_with_len (a + 1) count) in
    let all = row a ++ rest in
    let more : suc k * n ≡ n + k * n = omega arith in
    let next : a + 1 + k ≡ a + suc k = omega arith in
    ap (λ m. take n (drop m all)) more
    ∙ ap (take n) (sym (drop-drop (k * n) n all))
    ∙ ap (λ xs. take n (drop (k * n) xs)) (drop_at (row a) rest n (long a))
    ∙ part_rows row n (a + 1) count k long (omega arith)
    ∙ ap row next

pub length-made_row : (number w r : ℕ) → length (made_row number w r) ≡ w
unfolding made_row
length-made_row number w r = length-map-range_with_len (made_sample number r) 0 w

pub length-made_samples : (number w h : ℕ) → length (made_samples number w h) ≡ h * w
unfolding made_samples
length-made_samples number w h = length-rows (made_row number w) w 0 h (length-made_row number w)

-- the sample at column c of a row, and at row r, column c
pub row_sample_is : (number w r c : ℕ) → c < w → get_or (made_row number w r) c 0 ≡ made_sample number r c
unfolding made_row
row_sample_is number w r c h = get_or-map-range_with_len (made_sample number r) 0 w c c 0 h (omega arith)

pub row_part_is : (number w h r : ℕ) → r < h → slice_chunk (made_samples number w h) w r ≡ made_row number w r
unfolding made_samples
row_part_is number w h r within =
    part_rows (made_row number w) w 0 h r (length-made_row number w) within ∙ ap (made_row number w) (omega arith)

pub sample_is : (number w h r c : ℕ) → r < h → c < w
    → get_or (made_samples number w h) (r * w + c) 0 ≡ made_sample number r c
sample_is number w h r c row col =
    let all = made_samples number w h in
    sym (get_or-drop (r * w) all c 0)
    ∙ sym (get_or-take w (drop (r * w) all) c 0 col)
    ∙ ap (λ xs. get_or xs c 0) (row_part_is number w h r row)
    ∙ row_sample_is number w r c col

-- samples have 12 bits
pub small_sample : (number r c : ℕ) → made_sample number r c < 4096
small_sample number r c = omega arith

pub small_row : (number w r : ℕ) → All (λ x. x < 4096) (made_row number w r)
small_row number w r =
    let long = length-made_row number w r in
    All-from_get_or (λ x. x < 4096) (made_row number w r) 0 (λ c h.
    let within : c < w = omega arith in
    rw (row_sample_is number w r c within) (small_sample number r c))

small_rows : (number w a count : ℕ) → All (λ x. x < 4096) (flat_map (made_row number w) (range_with_len a count))
small_rows number w a zero = All-nil (λ x. x < 4096)
small_rows number w a (suc count) =
    All-append (λ x. x < 4096) (made_row number w a) (flat_map (made_row number w) (range_with_len (a + 1) count))
    (small_row number w a) (small_rows number w (a + 1) count)

pub small_samples : (number w h : ℕ) → All (λ x. x < 4096) (made_samples number w h)
unfolding made_samples
small_samples number w h = small_rows number w 0 h
