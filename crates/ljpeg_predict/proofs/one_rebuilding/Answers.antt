use Rattle.ljpeg_predict.proofs.RebuiltLemmas.{one_list_of_samples, some_list_of_samples}
use Rattle.ljpeg_predict.proofs.one_rebuilding.Goals as goal

pub returns-clause-some : goal.returns-clause-some
returns-clause-some c = λ scan differences width. some_list_of_samples scan width differences

pub returns-clause-one : goal.returns-clause-one
returns-clause-one c = λ scan differences samples others width r s. one_list_of_samples scan width differences samples
    others r s
