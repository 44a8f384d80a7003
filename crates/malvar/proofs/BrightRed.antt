-- The definition at work: a frame of 8 by 8 samples, 0 but 1600 at the red site in row 4, column 4.
use Rattle.std.proofs.Common.{◌≡◌, ℕ, List, [], ◌∷◌, replicate, set, refl}
use Rattle.plane_view.specs.Plane.{Plane, sample}
use Rattle.malvar.specs.Demosaic.{malvar, demosaiced_at}

abbrev bright : Plane
bright = record { rows = 8; cols = 8; planes = 1; samples = set (replicate 64 0) 36 1600 }

abbrev sample_of : ℕ → ℕ → ℕ → ℕ
sample_of = demosaiced_at malvar (0 ∷ 1 ∷ 1 ∷ 2 ∷ []) 8 8 (sample bright)

abbrev pixel : ℕ → ℕ → List ℕ
pixel r c =
    sample_of r c 0
    ∷ sample_of r c 1
    ∷ sample_of r c 2
    ∷ []

at_red : pixel 4 4 ≡ 1600 ∷ 800 ∷ 1200 ∷ []
at_red = refl

at_green : pixel 4 5 ≡ 800 ∷ 0 ∷ 0 ∷ []
at_green = refl

at_next_red : pixel 4 6 ≡ 0 ∷ 0 ∷ 0 ∷ []
at_next_red = refl

at_blue : pixel 5 5 ≡ 400 ∷ 0 ∷ 0 ∷ []
at_blue = refl
