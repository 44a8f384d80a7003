use Rattle.std.proofs.Common.{◌≡◌, ℕ, length, subst, arith}
use Rattle.stage_core.specs.Bases.{AreCells}
use Rattle.stage_core.proofs.PixelCells.{pixels, pixels_are_cells}
use Rattle.stage_core.proofs.tests.PixelsBase.shape.Goals as goal

pub returns-clause-cells : goal.returns-clause-cells
returns-clause-cells c =
    let b = c.args.self.now in
    let n = length b.samples.items in
    let count : n ≡ c.len.result = omega arith in
    let P : ℕ → Type 0 = λ cols. AreCells (pixels n) (record { rows = 1; cols = cols; planes = 1 }) in
    subst P count (pixels_are_cells n b.some b.few)
