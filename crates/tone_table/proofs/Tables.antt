-- Tables of curves.
use Rattle.std.proofs.Common.{◌≡◌, ℕ, List, length, arith}
use Rattle.std.proofs.lemmas.List.FromFn.{fill_by_all}
use Rattle.tone_table.specs.declared.Curve.{Curve}
use Rattle.tone_table.specs.Tones.{curve_table, toned_at}
use Rattle.tone_table.specs.inner.Fills.{HasEntries}

-- a table with each entry of a curve is the curve's
pub table_is : (curve : Curve) (table : List ℕ) → length table ≡ 65536 → HasEntries (toned_at curve) table 0 65536
    → table ≡ curve_table curve
unfolding curve_table
table_is curve table long entries =
    fill_by_all (toned_at curve) table 65536 0 long (λ x below. entries x (omega arith) below)
