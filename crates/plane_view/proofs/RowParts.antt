-- Laws of parts of rows: their samples by place.
use Rattle.std.proofs.Common.{◌≡◌, ℕ, ◌+◌, ◌-◌, ◌*◌, ◌<◌, List, length, get_or, ◌∙◌, ap, arith}
use Rattle.std.proofs.lemmas.Nat.{mul-add-lt}
use Rattle.plane_view.specs.Lent.{Lent, IsRowPart, sample_at}

-- a sample of a row's part: in pixel d of it, in plane p of n
pub row_part_point : (xs : List ℕ) (L : Lent) (r left right : ℕ) → IsRowPart xs L r left right → (c p d n : ℕ)
    → c ≡ left + d
    → n ≡ L.planes → c < right → p < L.planes → get_or xs (d * n + p) 0 ≡ sample_at L r c p
row_part_point xs L r left right row_part c p d n column planes inside plane =
    let at : d ≡ c - left = omega arith in
    ap (λ (m : ℕ). get_or xs (d * m + p) 0) planes
    ∙ ap (λ (m : ℕ). get_or xs (m * L.planes + p) 0) at
    ∙ row_part.samples c p (omega arith) inside plane

-- pixel d, plane p of n, is within a row's part
pub row_part_index : (xs : List ℕ) (L : Lent) (r left right : ℕ) → IsRowPart xs L r left right → (d p n : ℕ)
    → d < right - left
    → n ≡ L.planes → p < n → d * n + p < length xs
row_part_index xs L r left right row_part d p n column planes plane =
    let within : d * n + p < n * (right - left) = mul-add-lt d n p (right - left) column plane in
    let same : (right - left) * n ≡ (right - left) * L.planes = ap (λ (m : ℕ). (right - left) * m) planes in
    let long : length xs ≡ (right - left) * L.planes = row_part.long in
    omega arith
