use Rattle.std.proofs.Common.{◌≡◌, length, ◌∙◌, arith}
use Rattle.stage_core.proofs.PixelCells.{count_of_pixels}
use Rattle.stage_core.proofs.tests.PixelsBase.cells.Goals as goal

pub returns : goal.returns
returns c =
    let n = length c.args.self.now.samples.items in
    let count : c.len.result ≡ n = omega arith in
    count ∙ count_of_pixels n
