-- Bytes spell exactly one list of samples.
use Rattle.std.proofs.Common.{◌≡◌, ℕ, zero, suc, ◌+◌, ◌*◌, ◌^◌, ◌<◌, ◌≤◌, Bool, List, [], ◌∷◌, ◌++◌, All, length, take}
use Rattle.std.proofs.Common.{refl, sym, ◌∙◌, arith, append_assoc}
use Rattle.std.specs.List.{flat_map}
use Rattle.std.specs.Fork.{slice_chunk}
use Rattle.std.proofs.lemmas.List.{take_all}
use Rattle.std.proofs.lemmas.List.Elements.{All-head, All-tail}
use Rattle.std.proofs.Math.Seq.{take-add}
use Rattle.tiff_dirs.specs.declared.Order.{Order}
use Rattle.strip_unpack.specs.Samples.{SpellsRows, sample_bits}
use Rattle.binary_digits.proofs.DigitLemmas.{append_same_size}
use Rattle.strip_unpack.proofs.FileOrder.{IsCode, sample_code}
use Rattle.strip_unpack.proofs.Rows.{length_part}

-- two rows of equally many samples that have the same digits are one
same_row : (f : ℕ → List Bool) (depth : ℕ) → IsCode f depth → (xs ys : List ℕ) (p q : List Bool) → length xs ≡ length ys
    → All (λ x. x < 2 ^ depth) xs → All (λ x. x < 2 ^ depth) ys → flat_map f xs ++ p ≡ flat_map f ys ++ q → xs ≡ ys
same_row f depth code [] [] p q long hx hy e = refl
same_row f depth code [] (y ∷ ys) p q long hx hy e = absurd (omega arith)
same_row f depth code (x ∷ xs) [] p q long hx hy e = absurd (omega arith)
same_row f depth code (x ∷ xs) (y ∷ ys) p q long hx hy e =
    let P : ℕ → Type 0 = λ z. z < 2 ^ depth in
    let parts = sym (append_assoc (f x) (flat_map f xs) p) ∙ e ∙ append_assoc (f y) (flat_map f ys) q in
    let split = append_same_size (f x) (f y) _ _ parts (code.long x ∙ sym (code.long y)) in
    let first = code.same x y (All-head P x xs hx) (All-head P y ys hy) split.0 in
    let rest = same_row f depth code xs ys p q (omega arith) (All-tail P x xs hx) (All-tail P y ys hy) split.1 in
    cc

-- lists whose parts are equal are equal as far as the parts go
same_parts : (n rows : ℕ) (xs ys : List ℕ) → ((k : ℕ) → k < rows → slice_chunk xs n k ≡ slice_chunk ys n k)
    → (k : ℕ) → k ≤ rows
    → take (k * n) xs ≡ take (k * n) ys
same_parts n rows xs ys same zero h = let none : 0 * n ≡ 0 = omega arith in rw none refl
same_parts n rows xs ys same (suc k) h =
    let next : suc k * n ≡ k * n + n = omega arith in
    let before = same_parts n rows xs ys same k (omega arith) in
    let here = same k h in
    rw (next, take-add, take-add) cc

-- the samples that bytes spell are the only ones
pub same_spelled : (order : Order) (depth rows cols : ℕ) (xs ys bytes : List ℕ) → depth ≤ 16
    → SpellsRows order depth rows cols xs bytes → SpellsRows order depth rows cols ys bytes → xs ≡ ys
same_spelled order depth rows cols xs ys bytes most sx sy =
    let code = sample_code order depth most in
    let parts : (k : ℕ) → k < rows → slice_chunk xs cols k ≡ slice_chunk ys cols k = λ k h.
    let a = sx.row k h in
    let b = sy.row k h in
    let long : length (slice_chunk xs cols k) ≡ length (slice_chunk ys cols k) =
    length_part cols k rows xs h (omega (arith, sx.count))
    ∙ sym (length_part cols k rows ys h (omega (arith, sy.count))) in
    same_row (sample_bits order depth) depth code _ _ a.padding b.padding long a.fits b.fits
    (sym a.spelled ∙ b.spelled) in
    sym (take_all (rows * cols) xs (omega (arith, sx.count))) ∙ same_parts cols rows xs ys parts rows (omega arith)
    ∙ take_all (rows * cols) ys (omega (arith, sy.count))
