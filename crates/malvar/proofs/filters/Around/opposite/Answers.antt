use Rattle.std.proofs.Common.{◌∙◌, ap}
use Rattle.malvar.specs.Demosaic.{rounded}
use Rattle.malvar.proofs.Sums.{opposite_sum}
use Rattle.malvar.proofs.filters.Around.opposite.Goals as goal

pub returns-in-Malvar : goal.returns-in-Malvar
returns-in-Malvar c = rw c.in-Malvar.is (c.scaled.ensures ∙ ap rounded (opposite_sum c.args.self))
