use Rattle.ljpeg_predict.proofs.DecodedLemmas.{answer_is_decoded}
use Rattle.ljpeg_predict.proofs.answer_is_computed.Goals as goal

pub returns : goal.returns
returns c = answer_is_decoded
