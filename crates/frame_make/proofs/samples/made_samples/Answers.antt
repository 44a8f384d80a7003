use Rattle.frame_make.specs.Made.{made_row, made_samples}
use Rattle.frame_make.proofs.Rows.{one_row_more}
use Rattle.frame_make.proofs.samples.made_samples.Goals as goal

pub loop-row-preserved : goal.loop-row-preserved
unfolding made_samples
loop-row-preserved c =
    let more = one_row_more (made_row c.args.number c.args.w) c.loop-row.row in
    let pushed = c.in_ok-extend_from_slice.ensures.items in
    let row = c.in_ok-made_row.ensures in
    let value = c.deref.ensures.value in
    cc
