-- Stamps after a change.
use Rattle.std.proofs.Common.{◌≡◌, ℕ, zero, suc, ◌+◌, ◌-◌, ◌<◌, ◌≤◌, List, [], ◌∷◌, ◌++◌, length, get_or, replicate}
use Rattle.std.proofs.Common.{take, false, ◌∙◌, ap, arith}
use Rattle.std.proofs.lemmas.List.{get_or-replicate}
use Rattle.tile_cache.specs.Pairs.{Cache}
use Rattle.stage_deps.specs.Stamping.{stamped_from}
use Rattle.kept_cells.specs.inner.Keys.{KeysUpTo}
use Rattle.kept_cells.specs.Kept.{key_at}
use Rattle.kept_cells.specs.Tiling.{held_in, kept_in}
use Rattle.kept_cells.proofs.Tiled.{later_absent}

-- the planes from the changed one on have the new stamp
pub stamped_high : (first stamp : ℕ) (stamps : List ℕ) (p : ℕ) → first ≤ p → p < length stamps
    → get_or (stamped_from first stamp stamps) p 0 ≡ stamp
stamped_high zero stamp stamps p high low = let all : length stamps - 0 ≡ length stamps = omega arith in
    rw all (get_or-replicate (length stamps) p stamp 0 low)
stamped_high (suc first) stamp [] p high low = absurd (omega arith)
stamped_high (suc first) stamp (x ∷ xs) zero high low = absurd (omega arith)
stamped_high (suc first) stamp (x ∷ xs) (suc p) high low =
    let rest : suc (length xs) - suc first ≡ length xs - first = omega arith in
    ap (λ (n : ℕ). get_or (take first xs ++ replicate n stamp) p 0) rest
    ∙ stamped_high first stamp xs p (omega arith) (omega arith)

-- no cell of the changed planes is held at its new stamp
pub stale_at : (c : Cache) (stamps : List ℕ) (changes first p k : ℕ) → KeysUpTo changes c.pairs → first ≤ p
    → p < length stamps → (held_in c (stamped_from first (changes + 1) stamps)).holds p k ≡ false
stale_at c stamps changes first p k keys high low =
    let stamp : get_or (stamped_from first (changes + 1) stamps) p 0 ≡ changes + 1 =
    stamped_high first (changes + 1) stamps p high low in
    later_absent changes (key_at (kept_in c (stamped_from first (changes + 1) stamps)) p k) c.pairs keys
    (omega (arith, stamp))
