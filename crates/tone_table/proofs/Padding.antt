-- Points at the beginning of an array of zeros.
use Rattle.std.proofs.Common.{◌≡◌, ℕ, List, ◌++◌, length, take, drop, replicate, IsTrue, refl}
use Rattle.std.proofs.lemmas.List.{drop-replicate, take_at}
use Rattle.tone_table.specs.Knots.{are_knots, padded}

prefix : (points : List (ℕ × ℕ)) → take (length points) (points ++ drop (length points) (replicate 16 (0, 0))) ≡ points
prefix points = take_at points _ (length points) refl

pub prefix_of_zeros : (points copied : List (ℕ × ℕ)) → copied ≡ points → IsTrue (are_knots points)
    → (IsTrue (are_knots (take (length points) (copied ++ drop (length points) (replicate 16 (0, 0))))))
    × (copied ++ drop (length points) (replicate 16 (0, 0))
    ≡ padded (take (length points) (copied ++ drop (length points) (replicate 16 (0, 0)))))
    × (length points ≡ length (take (length points) (copied ++ drop (length points) (replicate 16 (0, 0)))))
prefix_of_zeros points copied same knots =
    rw (same, prefix points, drop-replicate {X = ℕ × ℕ} (length points) 16 (0, 0)) (knots, refl, refl)
