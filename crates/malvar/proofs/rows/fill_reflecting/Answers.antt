use Rattle.std.proofs.Common.{◌+◌, ◌-◌, arith}
use Rattle.malvar.specs.inner.Around.{even_site, odd_site}
use Rattle.malvar.specs.inner.Rows.{row_sample}
use Rattle.malvar.proofs.Pixels.{pixels_more, same_below_more, same_pixel}
use Rattle.malvar.proofs.rows.fill_reflecting.Goals as goal

pub loop-c-preserved : goal.loop-c-preserved
loop-c-preserved c =
    let kind = c.args.kind in
    let first = c.args.first in
    let at = c.loop-c.c in
    let f = row_sample kind (even_site c.args.sites) (odd_site c.args.sites) c.args.window.now in
    let pixel = c.pixel.result in
    let is_pixel = same_pixel kind _ _ _ _ pixel c.site.ensures c.around_at.ensures.sums c.pixel.ensures in
    rw c.put.ensures
    (record {
      pixels = pixels_more f first c.loop-c.out c.args.from at (at + 1) (at - first) pixel (omega arith) (omega arith)
          (omega arith) (omega arith) is_pixel c.loop-c.invariant.pixels;
      before = same_below_more c.args.out.now c.loop-c.out (c.args.from - first) (at - first) pixel (omega arith)
          c.loop-c.invariant.before;
    })
