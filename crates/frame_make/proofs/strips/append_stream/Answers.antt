use Rattle.frame_make.proofs.Streams.{stream_behind}
use Rattle.frame_make.proofs.strips.append_stream.Goals as goal

pub returns-in-Ok : goal.returns-in-Ok
returns-in-Ok c =
    let told = c.in-Ok.ensures.ok in
    stream_behind c.args.samples.now c.args.out.now.items c.encode.new.out.items told.0 c.args.w c.args.h c.type_inv.out
    c.requires.count c.requires.some_cols told.1 told.2
