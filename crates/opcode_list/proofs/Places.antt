-- Points, rectangles and entries that stand one after the other: one more of them.
use Rattle.std.proofs.Common.{◌≡◌, ℕ, ◌+◌, ◌*◌, List, [], ◌∷◌, ◌++◌, arith, refl, length}
use Rattle.std.proofs.lemmas.List.FromFn.{length-map-range_with_len, map-range_with_len_more}
use Rattle.opcode_list.specs.Cuts.{long_at, short_at}
use Rattle.opcode_list.specs.Params.{points_at, rect_at, rects_at, table_at}

pub points_at-more :
    (params : List ℕ) (place k : ℕ) →
    points_at params place (k + 1)
    ≡ points_at params place k ++ (long_at params (place + 8 * k), long_at params (place + 8 * k + 4)) ∷ []
unfolding points_at
points_at-more params place k =
    map-range_with_len_more (λ j. (long_at params (place + 8 * j), long_at params (place + 8 * j + 4))) 0 k k
    (omega arith)

pub rects_at-more :
    (params : List ℕ) (place k : ℕ) →
    rects_at params place (k + 1) ≡ rects_at params place k ++ rect_at params (place + 16 * k) ∷ []
unfolding rects_at
rects_at-more params place k = map-range_with_len_more (λ j. rect_at params (place + 16 * j)) 0 k k (omega arith)

pub table_at-more :
    (params : List ℕ) (place k : ℕ) →
    table_at params place (k + 1) ≡ table_at params place k ++ short_at params (place + 2 * k) ∷ []
unfolding table_at
table_at-more params place k = map-range_with_len_more (λ j. short_at params (place + 2 * j)) 0 k k (omega arith)

pub points_at-none : (params : List ℕ) (place : ℕ) → points_at params place 0 ≡ []
unfolding points_at
points_at-none params place = refl

pub rects_at-none : (params : List ℕ) (place : ℕ) → rects_at params place 0 ≡ []
unfolding rects_at
rects_at-none params place = refl

pub table_at-none : (params : List ℕ) (place : ℕ) → table_at params place 0 ≡ []
unfolding table_at
table_at-none params place = refl

pub length-points_at : (params : List ℕ) (place count : ℕ) → length (points_at params place count) ≡ count
unfolding points_at
length-points_at params place count = simp length-map-range_with_len

pub length-rects_at : (params : List ℕ) (place count : ℕ) → length (rects_at params place count) ≡ count
unfolding rects_at
length-rects_at params place count = simp length-map-range_with_len

pub length-table_at : (params : List ℕ) (place count : ℕ) → length (table_at params place count) ≡ count
unfolding table_at
length-table_at params place count = simp length-map-range_with_len
