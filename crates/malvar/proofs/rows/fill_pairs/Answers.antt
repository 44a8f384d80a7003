use Rattle.std.proofs.Common.{◌+◌, ◌-◌, ◌*◌, ◌∙◌, arith}
use Rattle.malvar.specs.Demosaic.{reach_of}
use Rattle.malvar.specs.inner.Rows.{row_sample}
use Rattle.malvar.specs.inner.AroundLaws.{reaches}
use Rattle.malvar.proofs.Pixels.{pixels_more_2, same_below_more, same_pixel}
use Rattle.malvar.proofs.Inside.{around_inside, even_column, odd_column}
use Rattle.malvar.proofs.rows.fill_pairs.Goals as goal

pub loop-k-preserved : goal.loop-k-preserved
loop-k-preserved c =
    let w = c.args.window.now in
    let row = c.args.row in
    let by = reach_of row.kind in
    let some = (reaches row.kind).0 in
    let from = c.args.from in
    let k = c.loop-k.k in
    let out = c.loop-k.out in
    let f = row_sample row.kind row.even row.odd w in
    let even = even_column row.even row.odd (from + k * 2) (omega arith) in
    let odd = odd_column row.even row.odd (from + k * 2 + 1) (omega arith) in
    let first = c.around_by-one.ensures.sums ∙ around_inside by w (from + k * 2) _ _ _ _ _ (omega arith) (omega arith)
    (omega arith) (omega arith) (omega arith) some (omega arith) in
    let second = c.around_by-two.ensures.sums ∙ around_inside by w (from + k * 2 + 1) _ _ _ _ _ (omega arith)
    (omega arith) (omega arith) (omega arith) (omega arith) some (omega arith) in
    let one = c.pixel-one_pixel.result in
    let two = c.pixel-two_pixel.result in
    let is_one = same_pixel row.kind _ _ _ _ one even first c.pixel-one_pixel.ensures in
    let is_two = same_pixel row.kind _ _ _ _ two odd second c.pixel-two_pixel.ensures in
    let at = from - row.first + k * 2 in
    rw (c.put-in-loop-k.ensures, c.put.ensures)
    (record {
      pixels = pixels_more_2 f row.first out from (from + k * 2) (from + k * 2 + 1) (from + (k + 1) * 2) at (at + 1) one
          two (omega arith) (omega arith) (omega arith) (omega arith) (omega arith) (omega arith) is_one is_two
          c.loop-k.invariant.pixels;
      before = same_below_more c.args.out.now _ (from - row.first) (at + 1) two (omega arith)
          (same_below_more c.args.out.now out (from - row.first) at one (omega arith) c.loop-k.invariant.before);
    })
