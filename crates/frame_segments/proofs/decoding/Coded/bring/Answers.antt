use Rattle.frame_segments.proofs.SegmentLemmas.{decoded_again}
use Rattle.frame_segments.proofs.decoding.Coded.bring.Goals as goal

pub returns : goal.returns
returns c =
    decoded_again c.decode.result c.args.self.now.bytes.now _ c.args.self.now.coding c.args.segment.now
    c.requires.decodable c.decode.ensures
