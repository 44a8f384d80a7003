use Rattle.std.proofs.Common.{length, Ok, Err, ap}
use Rattle.dng_tags.specs.Raw.{jpeg_samples}
use Rattle.ljpeg_predict.proofs.DecodedLemmas.{answer_is_decoded}
use Rattle.frame_segments.proofs.decoding.decode_stream.Goals as goal

pub returns-in-Ok : goal.returns-in-Ok
returns-in-Ok c =
    ap jpeg_samples
    (answer_is_decoded c.args.bytes.now (length c.args.out.now) (Ok tt) c.decode.new.out c.requires.some
    c.in-Ok.ensures)

pub returns-in-Err : goal.returns-in-Err
returns-in-Err c =
    ap jpeg_samples
    (answer_is_decoded c.args.bytes.now (length c.args.out.now) (Err c.in-Err.fault) c.decode.new.out c.requires.some
    c.in-Err.ensures)
