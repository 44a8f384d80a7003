-- Colour matrices (DNG 1.6, chapter 6, "Mapping Camera Color Space to CIE XYZ Space", the forward matrix). Entries in
-- 65536ths and the rounding are this project's own.
use Rattle.std.specs.Prelude.{ℕ, ◌+◌, ◌*◌, ℤ, pos, neg_ℤ, ◌+ℤ◌, ◌*ℤ◌, ◌≤ℤ◌, List, [], ◌∷◌, slice_index_or}
use Rattle.std.specs.Int.{int_div_euclid}
use Rattle.plane_view.specs.Plane.{Plane, sample, plane_of}
use Rattle.plane_view.specs.Samples.{clipped}

-- an entry of a matrix, in 65536ths
abbrev pub IsEntry : ℤ → Type 0
IsEntry entry = (neg_ℤ (pos 16777216) ≤ℤ entry) × (entry ≤ℤ pos 16777216)

-- an entry of a forward matrix, in 65536ths
abbrev pub IsForwardEntry : ℤ → Type 0
IsForwardEntry entry = (neg_ℤ (pos 1048576) ≤ℤ entry) × (entry ≤ℤ pos 1048576)

-- the entry in row i and column j of a matrix of 3 by 3
abbrev pub entry_at : List ℤ → ℕ → ℕ → ℤ
entry_at c i j = slice_index_or c (i * 3 + j) (pos 0)

-- row i of a matrix times a pixel, in 65536ths
abbrev pub row_times : List ℤ → ℕ → (red green blue : ℕ) → ℤ
row_times c i red green blue = entry_at c i 0 *ℤ pos red +ℤ entry_at c i 1 *ℤ pos green +ℤ entry_at c i 2 *ℤ pos blue

-- the colour i of a matrix times a pixel, rounded to the nearest number, a half up, and held within 0 and 65535
abbrev pub matrixed_value : List ℤ → ℕ → (red green blue : ℕ) → ℕ
matrixed_value c i red green blue = clipped (int_div_euclid (row_times c i red green blue +ℤ pos 32768) (pos 65536))

-- the sample at row r, column k of plane p of a plane whose pixels a matrix maps, from the samples by place
abbrev pub matrixed_at : List ℤ → (ℕ → ℕ → ℕ → ℕ) → ℕ → ℕ → ℕ → ℕ
matrixed_at c at r k p = matrixed_value c p (at r k 0) (at r k 1) (at r k 2)

-- the plane whose pixels a matrix maps
abbrev pub matrixed : List ℤ → Plane → Plane
matrixed c P = plane_of P.rows P.cols P.planes (matrixed_at c (sample P))

-- from XYZ under D50 to linear light of the primaries of IEC 61966-2-1 (sRGB), adapted after Bradford, in 10000ths
abbrev pub rgb_of_xyz : List ℤ
rgb_of_xyz =
    pos 31339 ∷ neg_ℤ (pos 16169) ∷ neg_ℤ (pos 4906)
    ∷ neg_ℤ (pos 9788) ∷ pos 19161 ∷ pos 335
    ∷ pos 719 ∷ neg_ℤ (pos 2290) ∷ pos 14052 ∷ []

-- the entry in row i and column j of that matrix times a forward matrix, rounded to the nearest number, a half up
abbrev pub forward_entry : List ℤ → ℕ → ℕ → ℤ
forward_entry f i j =
    int_div_euclid (entry_at rgb_of_xyz i 0 *ℤ entry_at f 0 j +ℤ entry_at rgb_of_xyz i 1 *ℤ entry_at f 1 j
    +ℤ entry_at rgb_of_xyz i 2 *ℤ entry_at f 2 j +ℤ pos 5000) (pos 10000)

-- that matrix times a forward matrix, which leads from balanced samples to XYZ under D50
abbrev pub forward_matrix : List ℤ → List ℤ
forward_matrix f =
    forward_entry f 0 0 ∷ forward_entry f 0 1 ∷ forward_entry f 0 2
    ∷ forward_entry f 1 0 ∷ forward_entry f 1 1 ∷ forward_entry f 1 2
    ∷ forward_entry f 2 0 ∷ forward_entry f 2 1 ∷ forward_entry f 2 2 ∷ []

-- the matrix that leaves samples as they are
abbrev pub camera_matrix : List ℤ
camera_matrix =
    pos 65536 ∷ pos 0 ∷ pos 0
    ∷ pos 0 ∷ pos 65536 ∷ pos 0
    ∷ pos 0 ∷ pos 0 ∷ pos 65536 ∷ []
