use Rattle.ljpeg_predict.proofs.LawLemmas.{law}
use Rattle.ljpeg_predict.proofs.encoder.decoding_gives_back.Goals as goal

pub returns : goal.returns
returns c = law
