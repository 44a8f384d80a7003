use Rattle.std.proofs.Common.{length, ap, ◌∙◌}
use Rattle.frame_make.proofs.Rows.{length-made_samples}
use Rattle.frame_make.proofs.strips.stream_strip.Goals as goal

pub append_stream-requires-clause-count : goal.append_stream-requires-clause-count
append_stream-requires-clause-count c =
    ap length (c.deref.ensures.value ∙ c.in_ok-made_samples.ensures)
    ∙ length-made_samples c.args.number c.args.w c.args.h
