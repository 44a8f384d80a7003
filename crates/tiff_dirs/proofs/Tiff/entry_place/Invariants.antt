use Rattle.std.proofs.Common.{◌≡◌, ◌+◌, ◌*◌, ◌<◌, ℕ}
use Rattle.tiff_dirs.specs.Header.{order_of}
use Rattle.tiff_dirs.specs.Numbers.{short_at}
use Rattle.tiff_dirs.proofs.Tiff.entry_place.Given as goal

-- no entry so far has the tag
abbrev pub invariant-loop-i : goal.invariant-loop-i
invariant-loop-i l =
    let bytes = l.self-inside.bytes.now in
    (k : ℕ) → k < l.i → short_at (order_of bytes) bytes (l.at + 2 + 12 * k) ≡ l.tag → ⊥
