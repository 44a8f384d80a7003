-- Points, two integers at a time.
use Rattle.std.proofs.Common.{◌≡◌, ℕ, ◌+◌, ◌<◌, ◌≤◌, ◌∙◌, ℤ, List, [], ◌∷◌, ◌++◌, Option, Some, None, length, take}
use Rattle.std.proofs.Common.{drop, set, refl, sym, ap, arith, option_map, option_and_then}
use Rattle.std.proofs.lemmas.Grind.{take-set_at}
use Rattle.dev_settings.specs.Values.{points_of}
use Rattle.dev_settings.specs.inner.Shown.{first_point_of}

-- the points of at least two integers, where the first two are a point
points_of-first : (ns : List ℤ) (point : ℕ × ℕ) → 2 ≤ length ns → Some point ≡ first_point_of ns
    → points_of ns ≡ option_map (λ points. point ∷ points) (points_of (drop 2 ns))
points_of-first [] point h e = absurd (omega arith)
points_of-first (x ∷ []) point h e = absurd (omega arith)
points_of-first (x ∷ y ∷ ns) point h e = rw (← e) refl

-- integers whose first two are no point are no points
pub points_of_none : (ns : List ℤ) → 2 ≤ length ns → None ≡ first_point_of ns → points_of ns ≡ None
points_of_none [] h e = absurd (omega arith)
points_of_none (x ∷ []) h e = absurd (omega arith)
points_of_none (x ∷ y ∷ ns) h e = rw (← e) refl

append_both : (made : List (ℕ × ℕ)) (point : ℕ × ℕ) (rest : Option (List (ℕ × ℕ)))
    → option_map (λ points. made ++ points) (option_map (λ points. point ∷ points) rest)
    ≡ option_map (λ points. (made ++ point ∷ []) ++ points) rest
append_both made point None = refl
append_both made point (Some points) = simp Rattle.std.proofs.Common.append_assoc

-- one point more
pub points_of_step : (made : List (ℕ × ℕ)) (used : ℕ) (point : ℕ × ℕ) (rest all : List ℤ) → used < length made
    → 2 ≤ length rest → Some point ≡ first_point_of rest
    → option_map (λ points. take used made ++ points) (points_of rest) ≡ points_of all
    → option_map (λ points. take (used + 1) (set made used point) ++ points) (points_of (drop 2 rest)) ≡ points_of all
points_of_step made used point rest all room two e before =
    let more : take (used + 1) (set made used point) ≡ take used made ++ point ∷ [] =
    take-set_at made used (used + 1) point refl room in
    rw more (sym (append_both (take used made) point (points_of (drop 2 rest)))
    ∙ (ap (λ o. option_map (λ points. take used made ++ points) o) (sym (points_of-first rest point two e))
    ∙ before))
