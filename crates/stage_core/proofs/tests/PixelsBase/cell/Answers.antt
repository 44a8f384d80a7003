use Rattle.std.proofs.Common.{length, arith}
use Rattle.stage_core.proofs.PixelCells.{count_of_pixels, pixel_at}
use Rattle.stage_core.proofs.tests.PixelsBase.cell.Goals as goal

pub overflow_add-result : goal.overflow_add-result
overflow_add-result c =
    let pixels = c.args.self.now in
    omega (arith, count_of_pixels (length pixels.samples.items), pixels.few, c.requires)

pub returns : goal.returns
returns c = pixel_at (length c.args.self.now.samples.items) c.args.k c.requires
