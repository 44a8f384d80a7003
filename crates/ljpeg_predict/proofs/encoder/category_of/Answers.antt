use Rattle.std.proofs.Common.{arith}
use Rattle.ljpeg_predict.proofs.EncodeLemmas.{digits_of}
use Rattle.ljpeg_predict.proofs.encoder.category_of.Goals as goal

pub returns-clause-few : goal.returns-clause-few
returns-clause-few c = let d = digits_of c.magnitude.result c.magnitude.ensures.few in omega (arith, d.few)
