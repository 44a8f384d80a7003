-- Rows one after the other, in a list that is cut into parts.
use Rattle.std.specs.Fork.{slice_chunk}
use Rattle.std.proofs.Common.{◌≡◌, ℕ, ◌+◌, ◌-◌, ◌*◌, ◌<◌, ◌≤◌, List, [], ◌++◌, length, length-append, length-drop, take}
use Rattle.std.proofs.Common.{drop, sym, ap, ◌∙◌, arith}
use Rattle.std.proofs.lemmas.List.{append-nil, drop_all, drop-take, drop_at, length-take, length-take-le, take_at}
use Rattle.std.proofs.lemmas.Slice.{take-put_mid_below}
use Rattle.std.proofs.Math.Nat.{mul-le-mul_right}
use borrow.Rule.Slice.PartMut.{put_mid}

-- each part has its length
pub length_part : {A : Type 0} (n k rows : ℕ) (xs : List A) → k < rows → rows * n ≤ length xs
    → length (slice_chunk xs n k) ≡ n
length_part n k rows xs h long =
    let more : (k + 1) * n ≤ rows * n = mul-le-mul_right n (omega arith) in
    simp (length-take, length-drop) (omega arith)

-- a write to part k leaves the parts before it
pub part_before : (n k m j : ℕ) (xs ys : List ℕ) → j < k → k * n ≤ length xs
    → slice_chunk (put_mid (k * n) m xs ys) n j ≡ slice_chunk xs n j
part_before n k m j xs ys h within =
    let less : (j + 1) * n ≤ k * n = mul-le-mul_right n (omega arith) in
    sym (drop-take (j * n) n (put_mid (k * n) m xs ys))
    ∙ ap (drop (j * n)) (take-put_mid_below (k * n) m xs ys (j * n + n) (omega arith) within)
    ∙ drop-take (j * n) n xs

-- part k is what was written to it
pub part_written : (n k m : ℕ) (xs ys : List ℕ) → length ys ≡ n → k * n ≤ length xs
    → slice_chunk (put_mid (k * n) m xs ys) n k ≡ ys
part_written n k m xs ys long within =
    let rest = ys ++ drop m (drop (k * n) xs) in
    ap (take n) (drop_at (take (k * n) xs) rest (k * n) (length-take-le (k * n) xs within))
    ∙ take_at ys (drop m (drop (k * n) xs)) n long

-- a list whose end was written
pub end_written : (a : ℕ) (xs rest ys : List ℕ) → length xs ≡ a
    → put_mid a (length (xs ++ rest) - a) (xs ++ rest) ys ≡ xs ++ ys
end_written a xs rest ys long =
    let first = take_at xs rest a long in
    let after = drop_at xs rest a long in
    let none : drop (length (xs ++ rest) - a) rest ≡ [] = drop_all _ rest (simp length-append (omega arith)) in
    rw (first, after, none) (ap (λ zs. xs ++ zs) (append-nil ys))
