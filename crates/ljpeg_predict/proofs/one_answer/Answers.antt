use Rattle.ljpeg_predict.proofs.OneAnswerLemmas.{one_answer}
use Rattle.ljpeg_predict.proofs.one_answer.Goals as goal

pub returns : goal.returns
returns c = one_answer
