-- A row of pixels that is written from left to right.
use Rattle.std.proofs.Common.{◌≡◌, ◌≢◌, ℕ, zero, suc, ◌+◌, ◌*◌, ◌<◌, ◌≤◌, ℤ, List, length, get_or, refl, ◌∙◌, inl, inr}
use Rattle.std.proofs.Common.{arith, get_or-set_other, get_or-set_same, length-set}
use Rattle.std.specs.Prelude.{slice_index}
use Rattle.std.proofs.lemmas.Bool.{cases_lt}
use Rattle.colour_matrix.specs.Matrices.{matrixed_value}
use Rattle.colour_matrix.specs.inner.MatrixRows.{HasMatrixed, with_pixel}

-- samples of the pixels before stay
with_pixel-other : (xs : List ℕ) (k red green blue i : ℕ) → i < k * 3 → get_or (with_pixel xs k red green blue) i 0
    ≡ get_or xs i 0
with_pixel-other xs k red green blue i h =
    let not_red : i ≢ k * 3 = omega arith in
    let not_green : i ≢ k * 3 + 1 = omega arith in
    let not_blue : i ≢ k * 3 + 2 = omega arith in
    rw (get_or-set_other, get_or-set_other, get_or-set_other) refl

-- the samples of the pixel
with_pixel-same : (f : ℕ → ℕ) (xs : List ℕ) (k red green blue p : ℕ) → k * 3 + 3 ≤ length xs → p < 3 → red ≡ f 0
    → green ≡ f 1 → blue ≡ f 2 → get_or (with_pixel xs k red green blue) (k * 3 + p) 0 ≡ f p
with_pixel-same f xs k red green blue zero room _ is_red is_green is_blue =
    grind (arith, get_or-set_other, get_or-set_same, length-set)
with_pixel-same f xs k red green blue (suc zero) room _ is_red is_green is_blue =
    grind (arith, get_or-set_other, get_or-set_same, length-set)
with_pixel-same f xs k red green blue (suc (suc zero)) room _ is_red is_green is_blue =
    grind (arith, get_or-set_other, get_or-set_same, length-set)
with_pixel-same f xs k red green blue (suc (suc (suc p))) room h is_red is_green is_blue = absurd (omega arith)

-- the sample p of pixel k of a matrix times a row
abbrev pub mapped : List ℤ → List ℕ → ℕ → ℕ → ℕ
mapped c from k p = matrixed_value c p (slice_index from (k * 3)) (slice_index from (k * 3 + 1))
    (slice_index from (k * 3 + 2))

-- one more pixel
pub matrixed_more : (c : List ℤ) (from out : List ℕ) (k red green blue : ℕ) → k * 3 + 3 ≤ length out
    → red ≡ mapped c from k 0 → green ≡ mapped c from k 1 → blue ≡ mapped c from k 2 → HasMatrixed c from out k
    → HasMatrixed c from (with_pixel out k red green blue) (k + 1)
matrixed_more c from out k red green blue room is_red is_green is_blue before j p below plane =
    elim (cases_lt j k) [
      | inl lower ↦ with_pixel-other out k red green blue (j * 3 + p) (omega arith) ∙ before j p lower plane
      | inr here ↦
          let same : j ≡ k = omega arith in
          rw same (with_pixel-same (mapped c from k) out k red green blue p room plane is_red is_green is_blue)
    ]
