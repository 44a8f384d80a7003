use Rattle.std.proofs.Common.{arith}
use Rattle.std.proofs.lemmas.List.FromFn.{map-range_with_len_more}
use Rattle.frame_make.specs.Made.{made_sample}
use Rattle.frame_make.proofs.samples.made_row.Goals as goal

pub loop-col-preserved : goal.loop-col-preserved
loop-col-preserved c =
    let col = c.loop-col.col in
    let more = map-range_with_len_more (made_sample c.args.number c.args.row) 0 col col (omega arith) in
    let pushed = c.in_ok-push.ensures.items in
    let value = c.made_sample.ensures in
    cc
