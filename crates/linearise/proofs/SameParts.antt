-- Parts that stand for the same parameters.
use Rattle.std.proofs.Common.{◌≡◌}
use Rattle.linearise.specs.inner.Held.{blacks_in}
use Rattle.linearise.specs.inner.Seen.{seen}
use Rattle.linearise.specs.declared.parts.Parts.{Parts}
use Rattle.std.specs.Prelude.{pos}

pub seen_same : (s t : Parts) → s.blacks.rows ≡ t.blacks.rows → s.blacks.cols ≡ t.blacks.cols
    → s.scale.span ≡ t.scale.span → s.table ≡ t.table → blacks_in s.blacks ≡ blacks_in t.blacks → seen s ≡ seen t
seen_same s t rows cols span table blacks =
    λ i. record { rows = rows i; cols = cols i; table = table i; blacks = blacks i; span = pos (span i) }
